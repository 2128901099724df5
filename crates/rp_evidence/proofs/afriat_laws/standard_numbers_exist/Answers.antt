use Rattle.rp_evidence.proofs.OwnAfriat.{own_standard_exists}
use Rattle.rp_evidence.proofs.afriat_laws.standard_numbers_exist.Goals as goal

pub returns : goal.returns
returns c = own_standard_exists
