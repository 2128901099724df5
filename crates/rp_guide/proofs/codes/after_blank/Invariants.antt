use Rattle.std.proofs.Common.{◌≡◌, length}
use Rattle.rp_guide.specs.Codes.{after_blank}
use Rattle.rp_guide.proofs.codes.after_blank.Given as goal

abbrev pub invariant-loop-left : goal.invariant-loop-left
invariant-loop-left l = after_blank l.left ≡ after_blank l.text

abbrev pub decreases-loop-left : goal.decreases-loop-left
decreases-loop-left l = length l.left
