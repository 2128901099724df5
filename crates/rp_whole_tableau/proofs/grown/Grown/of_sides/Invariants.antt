use Rattle.std.proofs.Common.{◌≡◌, ◌+◌, ◌<◌, ℕ, length, slice_index}
use Rattle.rp_whole_tableau.specs.Pivots.{row_of}
use Rattle.rp_whole_tableau.specs.Programs.{IsFirstRow}
use Rattle.rp_whole_tableau.proofs.grown.Grown.of_sides.Given as goal

abbrev pub invariant-loop-i : goal.invariant-loop-i
invariant-loop-i l = record {
  count : length l.rows.items ≡ l.i;
  many : length l.basis.items ≡ l.i;
  each : (k : ℕ) → k < l.i → IsFirstRow (slice_index l.sides k) k (length l.sides) (row_of l.rows.items k);
  slacks : (k : ℕ) → k < l.i → slice_index l.basis.items k ≡ k + 1;
}
