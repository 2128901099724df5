-- No two fractions in lowest terms are written alike.
use Rattle.std.proofs.Common.{◌≡◌, ℕ, suc, ◌+◌, [], ◌∷◌, cond, not, true, false, ◌<◌, ◌≤◌, ◌⊎◌, inl, inr, List, length, refl, sym, ◌∙◌, arith, Bool, ◌==◌}
use Rattle.std.specs.List.{before_first, after_first, position_or_len}
use Rattle.std.proofs.lemmas.Bool.{cases_lt}
use Rattle.rp_num.specs.Fraction.{Fraction, fraction_text}
use Rattle.rp_num.specs.Spelled.{IsReduced}
use Rattle.rp_num.proofs.FractionText.{parts_where_none, parts_where_stroke}
use Rattle.rp_json_entries.proofs.NumberLemmas.{one_whole}

same_parts : (f g : Fraction) → f.num ≡ g.num → f.den ≡ g.den → f ≡ g
same_parts f g en ed = λ i. record { num = en i; den = ed i }

at_most : (b : Bool) (k n : ℕ) → k ≤ n → cond (not b) (1 + k) 0 ≤ suc n
at_most true k n h = omega arith
at_most false k n h = omega (arith, h)

within : (p : ℕ → Bool) (xs : List ℕ) → position_or_len p xs ≤ length xs
within p [] = omega arith
within p (x ∷ xs) = at_most (p x) (position_or_len p xs) (length xs) (within p xs)

pub one_fraction : (f g : Fraction) → IsReduced f → IsReduced g → fraction_text f ≡ fraction_text g → f ≡ g
one_fraction f g hf hg e = go (cases_lt (position_or_len (λ b. b == 47) (fraction_text g)) (length (fraction_text g)))
  where
    text : List ℕ
    text = fraction_text g

    go : (position_or_len (λ b. b == 47) (fraction_text g) < length (fraction_text g)) ⊎ (length (fraction_text g) ≤ position_or_len (λ b. b == 47) (fraction_text g)) → f ≡ g
    go (inl inside) =
        let parts : (before_first (λ b. b == 47) text ≡ before_first (λ b. b == 47) text) × (after_first (λ b. b == 47) text ≡ after_first (λ b. b == 47) text) × (position_or_len (λ b. b == 47) text < length text) = (refl, refl, inside) in
        let a = parts_where_stroke f text (before_first (λ b. b == 47) text) (after_first (λ b. b == 47) text) hf.1 e parts in
        let b = parts_where_stroke g text (before_first (λ b. b == 47) text) (after_first (λ b. b == 47) text) hg.1 refl parts in
        same_parts f g
        (one_whole f.num g.num (omega (arith, hf.1.num_fits)) (omega (arith, hg.1.num_fits)) (sym a.0 ∙ b.0))
        (one_whole f.den g.den (omega (arith, hf.1.den_fits)) (omega (arith, hg.1.den_fits)) (sym a.1 ∙ b.1))
    go (inr outside) =
        let all : position_or_len (λ b. b == 47) text ≡ length text = omega (arith, outside, within (λ b. b == 47) text) in
        let a = parts_where_none f text hf.1 e all in
        let b = parts_where_none g text hg.1 refl all in
        same_parts f g
        (one_whole f.num g.num (omega (arith, hf.1.num_fits)) (omega (arith, hg.1.num_fits)) (sym a.0 ∙ b.0))
        (one_whole f.den g.den (omega (arith, hf.1.den_fits)) (omega (arith, hg.1.den_fits)) (sym a.1 ∙ b.1))
