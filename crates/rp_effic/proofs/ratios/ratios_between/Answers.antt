use Rattle.rp_table.specs.Cost.{cost_at}
use Rattle.rp_effic.proofs.Collected.{between_moved, sorted_rise}
use Rattle.rp_effic.proofs.ratios.ratios_between.Goals as goal

pub returns-clause-between : goal.returns-clause-between
returns-clause-between c =
    between_moved c.args.costs.now.n (cost_at c.args.costs.now) c.args.bracket.now c.in_ok-ratios.ratios.items c.sort_unstable.new.self.items c.sort_unstable.ensures.permutation c.in_ok-ratios.ensures.between

pub returns-clause-rise : goal.returns-clause-rise
returns-clause-rise c = sorted_rise c.sort_unstable.new.self.items c.sort_unstable.ensures.sorted
