use Rattle.rp_evidence.proofs.Counts.{count_is_one}
use Rattle.rp_evidence.proofs.laws.counts_are_unique.Goals as goal

pub returns : goal.returns
returns g c = λ n s j k. count_is_one n g.R.Relation.step s j k
