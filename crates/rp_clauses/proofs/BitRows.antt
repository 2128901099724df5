-- Rows of bits in a list: a row is set, steps are noted in the rows, and a row takes in another.
use Rattle.std.proofs.Common.{◌≡◌, ◌≢◌, ℕ, ◌+◌, ◌<◌, ◌≤◌, ◌↔◌, ◌||◌, true, false, IsTrue, List, [], length, set, inl, inr, sym, ap, ◌∙◌, subst, arith, length-set, get_or-set_same, get_or-set_other}
use Rattle.std.proofs.lemmas.Bool.{cases_eq}
use Rattle.rp_evidence.specs.Bits.{bit_in}
use Rattle.rp_evidence.proofs.Rounds.{HasGone, reached_gone}
use Rattle.rp_clauses.specs.InnerBits.{has_bit}

-- ---- a row is set

module _ (rows : List (List ℕ)) (s : ℕ) (row : List ℕ) where
  set_has : s < length rows → (t : ℕ) → has_bit (set rows s row) s t ≡ bit_in row t
  set_has within t = ap (λ r. bit_in r t) (get_or-set_same rows s row [] within)

  others_have : (a t : ℕ) → a ≢ s → has_bit (set rows s row) a t ≡ has_bit rows a t
  others_have a t apart = ap (λ r. bit_in r t) (get_or-set_other rows s a row [] apart)

-- ---- steps are noted

-- The bits below end are set just where there is a step, and no other.
pub record HasNoted (step : ℕ → Type 0) (row : List ℕ) (end : ℕ) : Type 0 where
  pub before : (t : ℕ) → t < end → IsTrue (bit_in row t) ↔ step t
  pub after : (t : ℕ) → end ≤ t → bit_in row t ≡ false

-- The first rows have just the steps.
pub record HasNotedRows (size n : ℕ) (step : ℕ → ℕ → Type 0) (rows : List (List ℕ)) (end : ℕ) : Type 0 where
  pub long : length rows ≡ size
  pub noted : (s t : ℕ) → s < end → t < n → IsTrue (has_bit rows s t) ↔ step s t

pub noted_row : (size n : ℕ) (step : ℕ → ℕ → Type 0) (rows : List (List ℕ)) (s : ℕ) → HasNotedRows size n step rows s → s < size
    → (row : List ℕ) → ((t : ℕ) → t < n → IsTrue (bit_in row t) ↔ step s t) → HasNotedRows size n step (set rows s row) (s + 1)
noted_row size n step rows s so_far within row is = record {
  long = length-set rows s row ∙ so_far.long;
  noted = λ a t l t_in. elim (cases_eq a s) [
    | inl e ↦ rw e (subst (λ b. IsTrue b ↔ step s t) (sym (set_has rows s row (omega (arith, within, so_far.long)) t)) (is t t_in))
    | inr d ↦ subst (λ b. IsTrue b ↔ step a t) (sym (others_have rows s row a t d)) (so_far.noted a t (omega arith) t_in)
  ];
}

-- ---- a row takes in row k

pub row_gone : (old now : List (List ℕ)) (k s : ℕ) → HasGone (has_bit old) (has_bit now) k s → s < length now → has_bit now s k ≡ true
    → (row : List ℕ) → ((t : ℕ) → bit_in row t ≡ (has_bit now s t || has_bit old k t)) → (new : List (List ℕ)) → new ≡ set now s row
    → HasGone (has_bit old) (has_bit new) k (s + 1)
row_gone old now k s so_far within reached row is new e =
    rw e (reached_gone (has_bit old) (has_bit now) k s so_far reached (has_bit (set now s row)) (λ t. set_has now s row within t ∙ is t) (others_have now s row))
