-- How many behaviours meet a condition, as one more is drawn.
use Rattle.std.proofs.Common.{◌≡◌, ◌↔◌, Bool, true, false, IsTrue, ℕ, ◌+◌, ◌≤◌, [], ◌∷◌, ◌++◌, refl, sym, subst, arith}
use mir.Val.{bool_byte}
use Rattle.std.proofs.lemmas.Bool.{false≢true}
use Rattle.std.proofs.lemmas.List.{length_push}
use Rattle.rp_evidence.specs.Count.{IsNumberOf}
use Rattle.rp_evidence.proofs.Enumerations.{enumerates_with, enumerates_without}

-- none so far
pub none_of_none : (P : ℕ → Type 0) → IsNumberOf 0 P 0
none_of_none P = (
  [],
  record { rising = λ k within. absurd (omega arith); just_these = λ t. (λ c. absurd (omega (arith, c.1)), λ h. absurd (omega (arith, h.0))) },
  refl,
)

module _ (P : ℕ → Type 0) (n k : ℕ) (so_far : IsNumberOf n P k) where
  -- the next does not meet it
  pub number_kept : ¬ P n → IsNumberOf (n + 1) P k
  number_kept not = (so_far.0, enumerates_without P n so_far.0 so_far.1 not, so_far.2)

  -- the next meets it
  pub number_more : P n → IsNumberOf (n + 1) P (k + 1)
  number_more holds = (
    so_far.0 ++ n ∷ [],
    enumerates_with P n so_far.0 so_far.1 holds,
    omega (arith, length_push so_far.0 n, so_far.2),
  )

-- the next is told to meet it or not
pub number_told : (P : ℕ → Type 0) (n k added : ℕ) (told : Bool) → IsTrue told ↔ P n → added ≡ bool_byte told → IsNumberOf n P k → IsNumberOf (n + 1) P (k + added)
number_told P n k added true is one so_far = subst (λ a. IsNumberOf (n + 1) P (k + a)) (sym one) (number_more P n k so_far (is.0 refl))
number_told P n k added false is none so_far =
    subst (λ a. IsNumberOf (n + 1) P (k + a)) (sym none) (let e : k ≡ k + 0 = omega arith in subst (IsNumberOf (n + 1) P) e (number_kept P n k so_far (λ holds. false≢true (is.1 holds))))

pub one_at_most : (told : Bool) (added : ℕ) → added ≡ bool_byte told → added ≤ 1
one_at_most true added is = omega (arith, is)
one_at_most false added is = omega (arith, is)
