use Rattle.rp_evidence.proofs.OwnAfriat.{own_model_exists}
use Rattle.rp_evidence.proofs.afriat_laws.models_exist.Goals as goal

pub returns : goal.returns
returns c = own_model_exists
