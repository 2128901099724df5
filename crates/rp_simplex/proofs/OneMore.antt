-- A common divisor of one more number.
use Prim.Native.Nat.{◌∣◌}
use Rattle.std.proofs.Common.{◌≡◌, ℕ, ◌+◌, ◌<◌, inl, inr, sym, subst, arith}
use Rattle.std.specs.Int.{IsGcd}
use Rattle.std.proofs.lemmas.Bool.{cases_eq}
use Rattle.std.proofs.lemmas.Nat.Gcd.{dvd_trans, dvd_of_mod-eq-zero}

-- ---- one more number in a common divisor
pub still_divides : (old new x n : ℕ) (f : ℕ → ℕ) → IsGcd old x new → ((q : ℕ) → q < n → old ∣ f q) → x ≡ f n → (q : ℕ) → q < n + 1 → new ∣ f q
still_divides old new x n f gcd below e q l = elim (cases_eq q n) [
  | inl same ↦ subst (λ k. new ∣ f k) (sym same) (subst (λ k. new ∣ k) e gcd.1)
  | inr ne ↦ dvd_trans new gcd.0 (below q (omega arith))
]

pub one_divides : (n : ℕ) → 1 ∣ n
one_divides n = dvd_of_mod-eq-zero 1 (omega arith)

pub not_zero : (n : ℕ) → (n ≡ 0 → ⊥) → 0 < n
not_zero n h = elim (cases_eq n 0) [ inl e ↦ absurd (h e) | inr ne ↦ omega arith ]
