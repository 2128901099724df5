use Rattle.std.proofs.Common.{◌≡◌, ◌≤◌, ◌*◌, ◌^◌, take}
use Rattle.rp_patch.specs.Kinds.{weight_using}
use Rattle.rp_check_mixture.proofs.evidence.weight_on.Given as goal

abbrev pub invariant-loop-share : goal.invariant-loop-share
invariant-loop-share g l =
    (l.weight ≡ weight_using (g.C.CellUnits.kinds l.choosers) (take l.share-index l.shares) l.cell)
    × (l.weight ≤ l.share-index * 2 ^ 63)
