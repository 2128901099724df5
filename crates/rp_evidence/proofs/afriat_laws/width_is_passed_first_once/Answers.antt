use Rattle.rp_evidence.proofs.OwnAfriat.{own_passed_first_once}
use Rattle.rp_evidence.proofs.afriat_laws.width_is_passed_first_once.Goals as goal

pub returns : goal.returns
returns c = λ n s t levels cost count u m are. own_passed_first_once n levels cost count u m are s t
