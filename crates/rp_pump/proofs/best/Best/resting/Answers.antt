use Rattle.std.proofs.Common.{◌∙◌}
use Rattle.rp_table.specs.Cost.{cost_at}
use Rattle.rp_pump.proofs.Rounds.{IsBest-resting}
use Rattle.rp_pump.proofs.best.Best.resting.Goals as goal

pub returns-clause-best : goal.returns-clause-best
returns-clause-best c =
    IsBest-resting c.args.costs.now.n (cost_at c.args.costs.now) c.from_vec.result c.n.ensures.valid.some
    (c.from_vec.ensures ∙ c.in_ok-cycle.ensures.items)

pub returns-clause-resting : goal.returns-clause-resting
returns-clause-resting c = c.from_vec.ensures ∙ c.in_ok-cycle.ensures.items
