use Rattle.std.proofs.Common.{ℕ, ◌<◌, ◌≤◌, pos, get_or}
use Rattle.std.specs.Int.RustNames.{unsigned_abs}
use Rattle.rp_farkas.specs.Limits.{largest_entry}
use Rattle.rp_simplex.proofs.first.largest_in.Given as goal

abbrev pub invariant-loop-s : goal.invariant-loop-s
invariant-loop-s l = record {
  small : l.largest ≤ largest_entry;
  grows : l.so_far ≤ l.largest;
  bounds : (s : ℕ) → s < l.s → unsigned_abs (get_or l.column s (pos 0)) ≤ l.largest;
}
