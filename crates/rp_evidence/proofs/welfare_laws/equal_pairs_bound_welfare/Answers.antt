use Rattle.rp_evidence.proofs.WelfareLaws.{pair_is_least}
use Rattle.rp_evidence.proofs.welfare_laws.equal_pairs_bound_welfare.Goals as goal

pub returns : goal.returns
returns c = λ input prices t reached den y x lists pair. pair_is_least input prices t reached lists den y x pair
