use Rattle.rp_evidence.proofs.Levels.{strict_to_weak}
use Rattle.rp_table.specs.Cost.{cost_at}
use Rattle.rp_pref.proofs.verdict.verdict_at.Goals as goal

pub verdict_over-requires-clause-strict_is_weak : goal.verdict_over-requires-clause-strict_is_weak
verdict_over-requires-clause-strict_is_weak c = λ s t a b. strict_to_weak (cost_at c.args.costs.now) c.args.level.num c.args.level.den s t
