use Rattle.rp_evidence.proofs.Counts.{counts_order_steps}
use Rattle.rp_evidence.proofs.laws.step_counts_order.Goals as goal

pub returns : goal.returns
returns g c = λ n counts. counts_order_steps n g.R.Relation.step counts
