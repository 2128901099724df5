use Rattle.std.proofs.Common.{◌≡◌, ◌≤◌, length}
use Rattle.rp_patch.specs.Choices.{random_input_of}
use Rattle.rp_patch.specs.Units.{chosen_below}
use Rattle.rp_patch.proofs.chosen.all_chosen.Given as goal

abbrev pub invariant-loop-j : goal.invariant-loop-j
invariant-loop-j l = record {
  so_far : l.chosen.items ≡ chosen_below (random_input_of l.budgets l.choices) l.j;
  few : length l.chosen.items ≤ l.most;
}
