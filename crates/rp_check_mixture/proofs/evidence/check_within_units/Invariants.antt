use Rattle.std.proofs.Common.{◌<◌, ◌≤◌, ◌*◌, ℕ}
use Rattle.rp_patch.specs.Kinds.{weight_using}
use Rattle.rp_check_mixture.proofs.evidence.check_within_units.Given as goal

abbrev pub invariant-loop-i : goal.invariant-loop-i
invariant-loop-i g l =
    let k = g.C.CellUnits.kinds l.choosers in (i : ℕ) → i < l.i → weight_using k l.shares i ≤ l.den * k.units i
