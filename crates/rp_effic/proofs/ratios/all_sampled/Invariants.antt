use Rattle.std.proofs.Common.{◌≤◌, ◌+◌, length}
use Rattle.rp_effic.specs.InnerRatios.{HasOne}
use Rattle.rp_effic.proofs.ratios.all_sampled.Given as goal

abbrev pub invariant-loop-s : goal.invariant-loop-s
invariant-loop-s l = record {
  one : HasOne l.ratios.items;
  few : length l.ratios.items ≤ l.s + 1;
}
