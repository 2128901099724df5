use Rattle.std.proofs.Common.{◌≡◌, ◌++◌}
use Rattle.rp_answers.specs.PatchesText.{sides_below}
use Rattle.rp_answers.proofs.patches.push_sides.Given as goal

abbrev pub invariant-loop-k : goal.invariant-loop-k
invariant-loop-k l = l.out.items ≡ l.initial.out.items ++ sides_below l.patches l.i l.k
