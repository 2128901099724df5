use Rattle.std.proofs.Common.{◌≡◌, ◌<◌, ℕ, length, pos, slice_index}
use Rattle.rp_whole_tableau.specs.Programs.{price_of}
use Rattle.rp_generated.proofs.rounds.prices_of.Given as goal

abbrev pub invariant-loop-i : goal.invariant-loop-i
invariant-loop-i l = record {
  many : length l.prices.items ≡ l.i;
  each : (k : ℕ) → k < l.i → pos (slice_index l.prices.items k) ≡ price_of l.program k;
}
