use Rattle.std.proofs.Common.{◌≡◌, ◌-◌, ◌++◌, Some, None, replicate}
use Rattle.rp_grid.proofs.grid.fill_all.Given as goal

abbrev pub invariant-loop-index : goal.invariant-loop-index
invariant-loop-index g l =
    (l.base.ptr ≡ l.places.at) × (l.places.at ≡ l.initial.places.at) × (l.places.slots ≡ replicate l.index (Some l.fill) ++ replicate (l.len - l.index) None)
