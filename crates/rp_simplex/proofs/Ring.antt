-- Identities of the ring of whole numbers: both sides as terms, and one equation of natural numbers that `omega` decides.
use Rattle.std.proofs.Common.{◌≡◌, ℕ, ◌+◌, ◌*◌, ℤ, ◌+ℤ◌, ◌-ℤ◌, ◌*ℤ◌, neg_ℤ, ap, arith}
use borrow.Author.Differences.{up, down, same_in, product_is, sum_is_lem, neg_is}

infixl 6 ◌⊕◌ ◌⊖◌
infixl 7 ◌⊗◌
pub data Term : Type 0 where
  at : ℤ → Term
  ◌⊕◌ : Term → Term → Term
  ◌⊖◌ : Term → Term → Term
  ◌⊗◌ : Term → Term → Term

abbrev pub value : Term → ℤ
value (at z) = z
value (s ⊕ t) = value s +ℤ value t
value (s ⊖ t) = value s -ℤ value t
value (s ⊗ t) = value s *ℤ value t

-- a whole number is the difference of two naturals, its ups and its downs
abbrev mutual
  pub ups : Term → ℕ
  ups (at z) = up z
  ups (s ⊕ t) = ups s + ups t
  ups (s ⊖ t) = ups s + downs t
  ups (s ⊗ t) = ups s * ups t + downs s * downs t

  pub downs : Term → ℕ
  downs (at z) = down z
  downs (s ⊕ t) = downs s + downs t
  downs (s ⊖ t) = downs s + ups t
  downs (s ⊗ t) = ups s * downs t + downs s * ups t

sound_times : (a b : ℤ) (u d v e : ℕ) → up a + d ≡ down a + u → up b + e ≡ down b + v
    → up (a *ℤ b) + (u * e + d * v) ≡ down (a *ℤ b) + (u * v + d * e)
sound_times a b u d v e h k =
    let h1 = ap (λ (n : ℕ). n * up b) h in
    let h2 = ap (λ (n : ℕ). n * down b) h in
    let k1 = ap (λ (n : ℕ). n * u) k in
    let k2 = ap (λ (n : ℕ). n * d) k in
    omega (arith, product_is a b, h1, h2, k1, k2)

sound : (t : Term) → up (value t) + downs t ≡ down (value t) + ups t
sound (at z) = omega arith
sound (s ⊕ t) = omega (arith, sum_is_lem (value s) (value t), sound s, sound t)
sound (s ⊖ t) = omega (arith, sum_is_lem (value s) (neg_ℤ (value t)), neg_is (value t), sound s, sound t)
sound (s ⊗ t) = sound_times (value s) (value t) (ups s) (downs s) (ups t) (downs t) (sound s) (sound t)

pub ring : (s t : Term) → ups s + downs t ≡ ups t + downs s → value s ≡ value t
ring s t h = same_in (value s) (value t) (omega (arith, sound s, sound t))
