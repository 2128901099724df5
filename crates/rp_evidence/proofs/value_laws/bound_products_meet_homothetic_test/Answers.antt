use Rattle.rp_evidence.proofs.Values.{bound_products_meet_test}
use Rattle.rp_evidence.proofs.value_laws.bound_products_meet_homothetic_test.Goals as goal

pub returns : goal.returns
returns c = bound_products_meet_test
