use Rattle.rp_evidence.proofs.OwnAfriat.{own_standard_is_one}
use Rattle.rp_evidence.proofs.afriat_laws.standard_numbers_are_unique.Goals as goal

pub returns : goal.returns
returns c = λ n s levels cost count other u v m k a b. own_standard_is_one n levels cost count other u v m k a b s
