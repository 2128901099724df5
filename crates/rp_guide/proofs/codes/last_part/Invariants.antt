use Rattle.std.proofs.Common.{◌≡◌, length}
use Rattle.rp_guide.specs.Codes.{last_part}
use Rattle.rp_guide.proofs.codes.last_part.Given as goal

abbrev pub invariant-loop-left : goal.invariant-loop-left
invariant-loop-left l = last_part l.found l.left ≡ last_part l.text l.text

abbrev pub decreases-loop-left : goal.decreases-loop-left
decreases-loop-left l = length l.left
