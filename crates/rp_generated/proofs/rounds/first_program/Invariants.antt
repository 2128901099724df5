use Rattle.std.proofs.Common.{◌≡◌, ◌<◌, ℕ, length, slice_index}
use Rattle.rp_patch.specs.Patches.{units_at}
use Rattle.rp_generated.proofs.rounds.first_program.Given as goal

abbrev pub invariant-loop-i : goal.invariant-loop-i
invariant-loop-i l = record {
  many : length l.units.items ≡ l.i;
  each : (k : ℕ) → k < l.i → slice_index l.units.items k ≡ units_at l.patches k;
}
