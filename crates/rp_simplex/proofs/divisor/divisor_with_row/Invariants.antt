use Prim.Native.Nat.{◌∣◌}
use Rattle.std.proofs.Common.{ℕ, ◌<◌}
use Rattle.std.specs.Int.RustNames.{unsigned_abs}
use Rattle.rp_simplex.specs.InnerRows.{moved}
use Rattle.rp_simplex.proofs.divisor.divisor_with_row.Given as goal

abbrev pub invariant-loop-s : goal.invariant-loop-s
invariant-loop-s l = record {
  positive : 0 < l.divisor;
  divides : l.divisor ∣ l.so_far;
  divides_row : (q : ℕ) → q < l.s → l.divisor ∣ unsigned_abs (moved l.t.multipliers l.t.den l.r l.pivot l.i l.factor q);
  greatest : (k : ℕ) → k ∣ l.so_far → ((q : ℕ) → q < l.s → k ∣ unsigned_abs (moved l.t.multipliers l.t.den l.r l.pivot l.i l.factor q)) → k ∣ l.divisor;
}
