use Rattle.std.proofs.Common.{◌≡◌, take}
use Rattle.rp_patch.specs.InnerUnited.{times_of}
use Rattle.rp_patch.proofs.of_choices.times_of.Given as goal

abbrev pub invariant-loop-one : goal.invariant-loop-one
invariant-loop-one l = l.times.items ≡ times_of (take l.one-index l.chosen)
