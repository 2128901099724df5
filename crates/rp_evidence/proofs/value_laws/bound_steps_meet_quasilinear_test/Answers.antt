use Rattle.rp_evidence.proofs.Values.{bound_steps_meet_test}
use Rattle.rp_evidence.proofs.value_laws.bound_steps_meet_quasilinear_test.Goals as goal

pub returns : goal.returns
returns c = bound_steps_meet_test
