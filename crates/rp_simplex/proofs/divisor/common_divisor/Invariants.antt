use Prim.Native.Nat.{◌∣◌}
use Rattle.std.proofs.Common.{ℕ, ◌<◌, ◌≤◌}
use Rattle.std.specs.Int.RustNames.{unsigned_abs}
use Rattle.rp_simplex.specs.InnerStage.{renewed}
use Rattle.rp_simplex.proofs.divisor.common_divisor.Given as goal

abbrev pub invariant-loop-i : goal.invariant-loop-i
invariant-loop-i l = record {
  positive : 0 < l.divisor;
  divides_den : l.divisor ∣ l.den;
  divides_rows : (i s : ℕ) → i < l.i → s ≤ l.t.rows → l.divisor ∣ unsigned_abs (renewed l.t l.r l.c i s);
  greatest : (k : ℕ) → k ∣ l.den → ((i s : ℕ) → i < l.i → s ≤ l.t.rows → k ∣ unsigned_abs (renewed l.t l.r l.c i s)) → k ∣ l.divisor;
}
