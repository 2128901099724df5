use Rattle.rp_evidence.proofs.AfriatModels.{own_model_has_no_violation}
use Rattle.rp_evidence.proofs.afriat_laws.models_exclude_violations.Goals as goal

pub returns : goal.returns
returns c = λ n levels cost utility multiplier walk model. own_model_has_no_violation n levels cost utility multiplier model walk
