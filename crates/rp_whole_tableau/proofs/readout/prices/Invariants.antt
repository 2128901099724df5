use Rattle.std.proofs.Common.{◌≡◌, ◌<◌, ◌*◌, ◌+◌, ℕ, length, pos, slice_index}
use Rattle.rp_whole_tableau.specs.InnerReadOff.{DividesPrices}
use Rattle.rp_whole_tableau.specs.Pivots.{entry_in}
use Rattle.rp_whole_tableau.specs.Programs.{objective_of}
use Rattle.rp_whole_tableau.proofs.readout.prices.Given as goal

abbrev pub invariant-loop-s : goal.invariant-loop-s
invariant-loop-s l = record {
  many : length l.prices.items ≡ l.s;
  each : DividesPrices l.t (objective_of l.t) l.common → (i : ℕ) → i < l.s → pos (slice_index l.prices.items i * l.common) ≡ entry_in l.t.rows.items (objective_of l.t) (i + 1);
}
