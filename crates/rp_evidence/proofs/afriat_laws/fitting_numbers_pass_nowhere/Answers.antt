use Rattle.rp_evidence.proofs.AfriatTheorem.{fitting_pass_nowhere}
use Rattle.rp_evidence.proofs.afriat_laws.fitting_numbers_pass_nowhere.Goals as goal

pub returns : goal.returns
returns c = fitting_pass_nowhere
