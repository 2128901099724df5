use Rattle.std.proofs.Common.{◌≡◌, ◌++◌, map, take}
use Rattle.rp_patch.specs.InnerTallies.{tallied}
use Rattle.rp_patch.specs.Units.{chosen_as}
use Rattle.rp_patch.proofs.chosen.push_chosen.Given as goal

abbrev pub invariant-loop-at : goal.invariant-loop-at
invariant-loop-at l = l.chosen.items ≡ l.fn.chosen.items ++ map (chosen_as l.j) (take l.at (tallied l.tally.entries))
