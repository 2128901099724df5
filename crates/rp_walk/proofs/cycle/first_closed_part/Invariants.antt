use Rattle.std.proofs.Common.{◌≡◌, ℕ, ◌<◌, ◌≤◌, length, get_or}
use Rattle.rp_walk.proofs.cycle.first_closed_part.Given as goal

abbrev pub invariant-loop-i : goal.invariant-loop-i
invariant-loop-i l = record {
  len : length l.place.items ≡ l.n;
  placed : (s : ℕ) → s < l.n → get_or l.place.items s 0 < length l.walk → (get_or l.place.items s 0 < l.i) × (get_or l.walk (get_or l.place.items s 0) 0 ≡ s);
  not_placed : (s k : ℕ) → s < l.n → length l.walk ≤ get_or l.place.items s 0 → k < l.i → get_or l.walk k 0 ≡ s → ⊥;
  distinct : (i j : ℕ) → i < j → j < l.i → get_or l.walk i 0 ≡ get_or l.walk j 0 → ⊥;
}
