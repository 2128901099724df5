use Rattle.rp_evidence.proofs.OwnAfriat.{own_standard_model}
use Rattle.rp_evidence.proofs.afriat_laws.standard_numbers_are_a_model.Goals as goal

pub returns : goal.returns
returns c = own_standard_model
