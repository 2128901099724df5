-- One row of bits takes in another, a word at a time.
use Rattle.std.proofs.Common.{◌≡◌, ℕ, ◌/◌, ◌%◌, ◌<◌, ◌≤◌, ◌||◌, eqb, List, length, get_or, bit_or, inl, inr, sym, ap, ◌∙◌, arith}
use Rattle.std.specs.Int.{bit_at}
use Rattle.std.proofs.lemmas.Bool.{cases_lt}
use Rattle.std.proofs.lemmas.List.{get_or_past}
use Rattle.rp_evidence.specs.Bits.{bit_in}
use Rattle.rp_evidence.proofs.BitLemmas.{bit_of_or}

-- The row has taken in the first w words.
pub record IsTakenIn (old now from : List ℕ) (w : ℕ) : Type 0 where
  pub long : length now ≡ length old
  pub done : (v : ℕ) → v < w → get_or now v 0 ≡ bit_or (get_or old v 0) (get_or from v 0)
  pub left : (v : ℕ) → w ≤ v → get_or now v 0 ≡ get_or old v 0

pub row_taken : (old now from : List ℕ) (w : ℕ) → IsTakenIn old now from w → length old ≤ w → length from ≤ w → (t : ℕ) → bit_in now t ≡ (bit_in old t || bit_in from t)
row_taken old now from w taken long_old long_from t =
    ap (λ v. eqb (bit_at v (t % 64)) 1) (word (t / 64)) ∙ bit_of_or (get_or old (t / 64) 0) (get_or from (t / 64) 0) (t % 64)
  where
    word : (v : ℕ) → get_or now v 0 ≡ bit_or (get_or old v 0) (get_or from v 0)
    word v = elim (cases_lt v w) [
      | inl l ↦ taken.done v l
      | inr l ↦
          let past_old : length old ≤ v = omega (arith, long_old, l) in
          let past_from : length from ≤ v = omega (arith, long_from, l) in
          taken.left v l ∙ get_or_past old v 0 past_old ∙ sym (λ i. bit_or (get_or_past old v 0 past_old i) (get_or_past from v 0 past_from i))
    ]
