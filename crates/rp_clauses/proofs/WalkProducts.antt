-- A start multiplied along a walk, step by step.
use Rattle.std.proofs.Common.{◌≡◌, ℕ, zero, suc, ◌+◌, ◌*◌, ◌-◌, ◌<◌, ◌≤◌, List, [], ◌∷◌, length, take, slice_index, Result, Ok, Err, ap, arith, add-one, below_more, inl, inr, refl, sym, subst}
use Rattle.std.proofs.Math.Nat.{one-le-mul}
use Rattle.std.proofs.lemmas.List.{take_all}
use Rattle.rp_num.specs.Fraction.{Fraction, IsLowestTerms, PassesWidth}
use Rattle.rp_evidence.specs.Homothetic.{EndsBelow, next_product, spent_product, product_from, walk_product}
use Rattle.rp_evidence.specs.declared.failure.Failure.{Failure}
use Rattle.rp_evidence.specs.declared.failure.Reason.TheVariants.{NotLess, Wide}
use Rattle.rp_evidence.specs.Clauses.{failure}
use Rattle.rp_num.proofs.Products.{below_cross, taken_lowest, taken_wide}
use Rattle.rp_clauses.specs.HomotheticFailure.{IsWideAfter, ProductsFail}

from_more : (f : ℕ → ℕ → ℕ) (t : ℕ) (rest : List ℕ) (k : ℕ) → k < length rest → product_from f t (take (suc k) rest) ≡ product_from f t (take k rest) * f (slice_index (t ∷ rest) k) (slice_index (t ∷ rest) (suc k))
from_more f t [] k within = absurd (omega arith)
from_more f t (s ∷ rest) zero within = omega arith
from_more f t (s ∷ rest) (suc k) within =
    let e = from_more f s rest k (omega arith) in
    let d = ap (λ z. f t s * z) e in
    omega (arith, d)

walk_more : (f : ℕ → ℕ → ℕ) (walk : List ℕ) (k : ℕ) → suc k < length walk → walk_product f (take (suc (suc k)) walk) ≡ walk_product f (take (suc k) walk) * f (slice_index walk k) (slice_index walk (suc k))
walk_more f [] k within = absurd (omega arith)
walk_more f (t ∷ rest) k within = from_more f t rest k (omega arith)

-- one step more of a walk
pub product_more : (f : ℕ → ℕ → ℕ) (walk : List ℕ) (k : ℕ) → k + 1 < length walk → walk_product f (take (k + 1 + 1) walk) ≡ walk_product f (take (k + 1) walk) * f (slice_index walk k) (slice_index walk (k + 1))
product_more f walk k within = rw (add-one, add-one) (walk_more f walk k (omega arith))

one_entry : (f : ℕ → ℕ → ℕ) (walk : List ℕ) → walk_product f (take (0 + 1) walk) ≡ 1
one_entry f [] = refl
one_entry f (t ∷ rest) = refl

-- after k steps the product is p, and none so far was too wide
pub record IsAfter (c : ℕ → ℕ → ℕ) (start : Fraction) (walk : List ℕ) (k : ℕ) (p : Fraction) : Type 0 where
  pub lowest : IsLowestTerms (start.num * next_product c (take (k + 1) walk)) (start.den * spent_product c (take (k + 1) walk)) p
  pub some : 1 ≤ start.den * spent_product c (take (k + 1) walk)
  pub none_wide : (j : ℕ) → j < k → ¬ IsWideAfter c start walk (j + 1)

module _ (c : ℕ → ℕ → ℕ) (start : Fraction) (walk : List ℕ) where
  pub at_start : IsLowestTerms start.num start.den start → IsAfter c start walk 0 start
  at_start h =
      let e = one_entry c walk in
      let d = one_entry (λ t s. c t t) walk in
      record {
        lowest = rw (e, d) (subst (λ n. IsLowestTerms n (start.den * 1) start) (times_one start.num) (subst (λ n. IsLowestTerms start.num n start) (times_one start.den) h));
        some = rw d (omega (arith, h.positive));
        none_wide = λ j below. absurd (omega arith);
      }
    where
      times_one : (n : ℕ) → n ≡ n * 1
      times_one n = omega arith

  module _ (k s t : ℕ) (v : Fraction) (within : k + 1 < length walk) (is_s : s ≡ slice_index walk k) (is_t : t ≡ slice_index walk (k + 1)) (own : 1 ≤ c s s) (so_far : IsAfter c start walk k v) where
    num_more : (start.num * next_product c (take (k + 1) walk)) * c s t ≡ start.num * next_product c (take (k + 1 + 1) walk)
    num_more = rw (product_more c walk k within, ← is_s, ← is_t) (omega arith)

    den_more : (start.den * spent_product c (take (k + 1) walk)) * c s s ≡ start.den * spent_product c (take (k + 1 + 1) walk)
    den_more = rw (product_more (λ i j. c i i) walk k within, ← is_s) (omega arith)

    pub wide_at : PassesWidth (v.num * c s t) (v.den * c s s) → IsWideAfter c start walk (k + 1)
    wide_at w =
        let p = (taken_wide v (start.num * next_product c (take (k + 1) walk)) (start.den * spent_product c (take (k + 1) walk)) (c s t) (c s s) so_far.some own so_far.lowest).0 w in
        subst (λ n. PassesWidth n (start.den * spent_product c (take (k + 1 + 1) walk))) num_more (subst (λ d. PassesWidth ((start.num * next_product c (take (k + 1) walk)) * c s t) d) den_more p)

    narrow_at : ¬ PassesWidth (v.num * c s t) (v.den * c s s) → ¬ IsWideAfter c start walk (k + 1)
    narrow_at fits w =
        let p = subst (λ n. PassesWidth n (start.den * spent_product c (take (k + 1 + 1) walk))) (sym num_more) w in
        let q = subst (λ d. PassesWidth ((start.num * next_product c (take (k + 1) walk)) * c s t) d) (sym den_more) p in
        fits ((taken_wide v (start.num * next_product c (take (k + 1) walk)) (start.den * spent_product c (take (k + 1) walk)) (c s t) (c s s) so_far.some own so_far.lowest).1 q)

    pub one_more : (p : Fraction) → IsLowestTerms (v.num * c s t) (v.den * c s s) p → ¬ PassesWidth (v.num * c s t) (v.den * c s s) → IsAfter c start walk (k + 1) p
    one_more p lowest fits =
        let l = taken_lowest v p (start.num * next_product c (take (k + 1) walk)) (start.den * spent_product c (take (k + 1) walk)) (c s t) (c s s) own so_far.lowest lowest in
        record {
          lowest = subst (λ n. IsLowestTerms n (start.den * spent_product c (take (k + 1 + 1) walk)) p) num_more (subst (λ d. IsLowestTerms ((start.num * next_product c (take (k + 1) walk)) * c s t) d p) den_more l);
          some = subst (λ d. 1 ≤ d) den_more (one-le-mul so_far.some own);
          none_wide = below_more (λ j. ¬ IsWideAfter c start walk (j + 1)) k so_far.none_wide (narrow_at fits);
        }

    pub fails_wide : (r : Result (Unit {0}) Failure) → PassesWidth (v.num * c s t) (v.den * c s s) → r ≡ Err (failure Wide (k + 1)) → ProductsFail c start walk r
    fails_wide r w is = rw is (inl (k, omega arith, ((λ narrow. narrow (wide_at w)), refl), so_far.none_wide))

  module _ (k : ℕ) (p : Fraction) (all : k ≡ length walk - 1) (some : 0 < length walk) (done : IsAfter c start walk k p) where
    whole : take (k + 1) walk ≡ walk
    whole = take_all (k + 1) walk (omega arith)

    crossed : (p.num * start.den < start.num * p.den → EndsBelow c start walk) × (EndsBelow c start walk → p.num * start.den < start.num * p.den)
    crossed =
        let l : IsLowestTerms (start.num * next_product c walk) (start.den * spent_product c walk) p = subst (λ w. IsLowestTerms (start.num * next_product c w) (start.den * spent_product c w) p) whole done.lowest in
        let s : 1 ≤ start.den * spent_product c walk = subst (λ w. 1 ≤ start.den * spent_product c w) whole done.some in
        let b = below_cross p start (start.num * next_product c walk) (start.den * spent_product c walk) s l in
        (b.0, b.1)

    pub ends_below : p.num * start.den < start.num * p.den → ProductsFail c start walk (Ok tt)
    ends_below less = ((λ j below. done.none_wide j (omega arith)), (crossed.0 less, tt))

    pub fails_not_less : (r : Result (Unit {0}) Failure) → ¬ (p.num * start.den < start.num * p.den) → r ≡ Err (failure NotLess 0) → ProductsFail c start walk r
    fails_not_less r not_less is = rw is (inr ((λ j below. done.none_wide j (omega arith)), inl ((λ ends. not_less (crossed.1 ends)), refl)))
