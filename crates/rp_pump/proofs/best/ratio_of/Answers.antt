use Rattle.std.proofs.Common.{arith, refl}
use Rattle.rp_table.specs.Cost.{cost_at}
use Rattle.rp_fit.specs.WalkSums.{next_sum}
use Rattle.rp_pump.proofs.Rounds.{IsBest-lowest}
use Rattle.rp_pump.proofs.best.ratio_of.Goals as goal

pub returns : goal.returns
returns c =
    let n = c.args.costs.now.n in
    let cost = cost_at c.args.costs.now in
    let walk = c.args.walk.now in
    let sums = c.gained_and_spent-gain.result in
    let made = c.gained_and_spent-gain.ensures in
    IsBest-lowest n cost walk sums.1 (next_sum cost walk) sums.0 _ _ c.requires made.spent refl made.gained made.some (omega (arith, made.small))
    c.in_lowest_terms.ensures.lowest c.in_lowest_terms.ensures.small
