use Rattle.rp_fit.proofs.OneNumber.{pairs_have_one_number}
use Rattle.rp_fit.proofs.laws.violating_pairs_have_one_number.Goals as goal

pub returns : goal.returns
returns g c = λ n j k p q. pairs_have_one_number n g.R.Relation.step j k p q
