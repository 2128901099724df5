use Rattle.std.proofs.Common.{◌≡◌, map}
use Rattle.std.specs.List.{range_with_len}
use Rattle.rp_patch.specs.Choices.{random_input_of}
use Rattle.rp_patch.specs.Signs.{sign_to}
use Rattle.rp_patch.proofs.signs.signs_of.Given as goal

abbrev pub invariant-loop-k : goal.invariant-loop-k
invariant-loop-k l = l.signs.items ≡ map (sign_to (random_input_of l.budgets l.choices) l.i) (range_with_len 0 l.k)
