use Rattle.rp_simplex.specs.InnerCombined.{IsGathered}
use Rattle.std.proofs.Common.{◌≤◌, length}
use Rattle.rp_simplex.proofs.pricing.gather.Given as goal

abbrev pub invariant-loop-s : goal.invariant-loop-s
invariant-loop-s l = record {
  room : length l.multipliers ≤ length l.places;
  gathered : IsGathered l.s l.multipliers l.places l.count;
}
