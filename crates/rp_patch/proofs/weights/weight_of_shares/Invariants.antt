use Rattle.std.proofs.Common.{◌≡◌, ◌≤◌, ◌*◌, ◌^◌, take}
use Rattle.rp_patch.specs.Kinds.{weight_of}
use Rattle.rp_patch.proofs.weights.weight_of_shares.Given as goal

abbrev pub invariant-loop-share : goal.invariant-loop-share
invariant-loop-share l = (l.weight ≡ weight_of (take l.share-index l.shares)) × (l.weight ≤ l.share-index * 2 ^ 63)
