use Rattle.std.proofs.Common.{◌≡◌, map}
use Rattle.std.specs.List.{range_with_len}
use Rattle.rp_patch.specs.Choices.{random_input_of}
use Rattle.rp_patch.specs.Signs.{signs_of}
use Rattle.rp_patch.proofs.tally.all_signs.Given as goal

abbrev pub invariant-loop-i : goal.invariant-loop-i
invariant-loop-i l = l.all.items ≡ map (signs_of (random_input_of l.budgets l.choices)) (range_with_len 0 l.i)
