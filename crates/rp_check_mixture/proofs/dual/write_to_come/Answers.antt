use Rattle.std.proofs.Common.{◌-◌, arith, subst, sym}
use Rattle.rp_check_mixture.specs.InnerSearch.{IsLeastOn}
use Rattle.rp_check_mixture.proofs.ToCome.{all_written, none_written, one_written}
use Rattle.rp_check_mixture.proofs.dual.write_to_come.Goals as goal

pub loop-k-init : goal.loop-k-init
loop-k-init c = none_written c.args.patches.now c.args.weights.now c.args.to_come.now c.requires.room

pub loop-k-preserved : goal.loop-k-preserved
loop-k-preserved c =
    let d = c.budgets-in-loop-k.result - 1 - c.loop-k.k in
    one_written c.args.patches.now c.args.weights.now c.loop-k.to_come c.loop-k.least c.loop-k.k c.loop-k.invariant
    d c.from-least.result (omega arith) (omega arith) (omega arith)
    (subst (IsLeastOn c.args.patches.now c.args.weights.now d) (sym c.from-least.ensures) c.least_on.ensures)

pub returns-clause-least : goal.returns-clause-least
returns-clause-least c = all_written c.args.patches.now c.args.weights.now c.loop-k.to_come c.loop-k.least c.loop-k.k (omega arith) c.loop-k.invariant
