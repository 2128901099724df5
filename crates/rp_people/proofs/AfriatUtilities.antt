-- The utility of an Afriat model is monotone and concave, and its preference rationalizes the choices: what a choice
-- affords has at most its number, and its own bundle at least that. A model exists where no violation does: over one
-- denominator all costs are whole, and for these Afriat's theorem is proved.
use borrow.Author.Differences.{up, down}
use Rattle.std.proofs.Common.{◌≡◌, ℕ, zero, suc, ◌+◌, ◌*◌, ◌<◌, ◌≤◌, ◌⊎◌, ◌↔◌, inl, inr, ap, sym, subst, arith}
use Rattle.std.proofs.lemmas.Bool.{cases_eq}
use Rattle.std.proofs.Math.Nat.{le_of_mul-le-mul_left, lt_of_mul-lt-mul_left, mul-le-mul_left, mul-lt-mul_of_pos_left, mul-pos}
use Rattle.std.specs.Prelude.{ℤ, pos, ◌+ℤ◌, ◌-ℤ◌, ◌*ℤ◌, ◌≤ℤ◌}
use Rattle.rp_table.specs.Spending.{spending}
use Rattle.rp_evidence.specs.Afriat.{IsModelBy, allowed_for_by}
use Rattle.rp_evidence.specs.Demand.{FractionBundle}
use Rattle.rp_evidence.proofs.AfriatSums.{not_above}
use Rattle.rp_evidence.proofs.AfriatTheorem.{model_exists}
use Rattle.rp_evidence.proofs.SameCosts.{no_violation_same}
use Rattle.rp_people.specs.AfriatUtility.{HaveUtility, IsModelOfChoices, IsUtilityOfNumbers, scaled_cost}
use Rattle.rp_people.specs.Bundles.{IsBundle}
use Rattle.rp_people.specs.Choices.{AreChoices, Choices, IsAffordable, IsStrictChoice, IsWeakChoice, MeetAxiom}
use Rattle.rp_people.specs.Fractions.{SignedFraction}
use Rattle.rp_people.specs.Rationalizing.{HasConcaveUtility, Rationalizes}
use Rattle.rp_people.specs.Utilities.{preference_of}
use Rattle.rp_people.proofs.Affine.{IsAffine}
use Rattle.rp_people.proofs.Differences.{IsDifference, at_most_by, at_most_on, at_most_parts, at_most_times, by_itself, equal_by, is_times, less_is, of_whole, sum_is, times_is}
use Rattle.rp_people.proofs.Minima.{IsLeastOf, concave_utility, least_utility}

-- ---- the utility of numbers

module _ (choices : Choices) (are : AreChoices choices) (u : ℕ → ℤ) (m : ℕ → ℕ) (some_each : (s : ℕ) → s < choices.n → 1 ≤ m s) where
  abbrev allowed : ℕ → FractionBundle → ℤ
  allowed s x = allowed_for_by choices.own u m x.den (scaled_cost choices x) s

  allowed_is : (s : ℕ) (x : FractionBundle) → IsDifference (allowed s x) (x.den * up (u s) + m s * (scaled_cost choices x s + 0)) (x.den * down (u s) + m s * (0 + x.den * choices.own s))
  allowed_is s x =
      sum_is (pos x.den *ℤ u s) (pos (m s) *ℤ (pos (scaled_cost choices x s) -ℤ pos (x.den * choices.own s))) (x.den * up (u s)) (x.den * down (u s)) (m s * (scaled_cost choices x s + 0)) (m s * (0 + x.den * choices.own s))
      (times_is x.den (u s) (up (u s)) (down (u s)) (by_itself (u s)))
      (times_is (m s) (pos (scaled_cost choices x s) -ℤ pos (x.den * choices.own s)) (scaled_cost choices x s + 0) (0 + x.den * choices.own s)
      (less_is (pos (scaled_cost choices x s)) (pos (x.den * choices.own s)) (scaled_cost choices x s) 0 (x.den * choices.own s) 0 (of_whole (scaled_cost choices x s)) (of_whole (x.den * choices.own s))))

  allowed_affine : (s : ℕ) → s < choices.n → IsAffine choices.goods (choices.price s) (up (u s)) (m s * choices.scale) (down (u s) + m s * choices.own s) (allowed s)
  allowed_affine s l = record {
    rises = mul-pos (some_each s l) are.positive_scale;
    is = λ x. let e = allowed_is s x in turned (up (allowed s x)) (down (allowed s x)) x.den (up (u s)) (down (u s)) (m s) choices.scale (spending choices.goods (choices.price s) x.num) (choices.own s) e;
  }
    where
      turned : (f g d p q k j z o : ℕ) → f + (d * q + k * (0 + d * o)) ≡ g + (d * p + k * (j * z + 0)) → f + d * (q + k * o) ≡ g + (d * p + (k * j) * z)
      turned f g d p q k j z o e = omega arith

  pub utility_of_numbers : (utility : FractionBundle → SignedFraction) → IsLeastOf choices.n allowed utility → IsUtilityOfNumbers choices u m utility
  utility_of_numbers utility is = record {
    over = is.over;
    least = λ x ix. let l = is.least x ix in record { reached = l.reached; least = l.least };
  }

  -- what a choice affords has at most its number, over the bundle's denominator
  affords_at_most : (utility : FractionBundle → SignedFraction) → IsUtilityOfNumbers choices u m utility → (s : ℕ) (x : FractionBundle) → s < choices.n → IsBundle x → IsAffordable choices s x → (utility x).num ≤ℤ (pos x.den *ℤ u s)
  affords_at_most utility is s x l ix affordable =
      not_above (pos x.den *ℤ u s) (utility x).num (m s) (scaled_cost choices x s) (x.den * choices.own s) (omega (arith, affordable)) ((is.least x ix).least s l)

  module _ (model : IsModelOfChoices choices u m) where
    pub chosen_at_least : (utility : FractionBundle → SignedFraction) → IsUtilityOfNumbers choices u m utility → (s : ℕ) → s < choices.n → (pos (choices.bundle s).den *ℤ u s) ≤ℤ (utility (choices.bundle s)).num
    chosen_at_least utility is s l =
        let r = (is.least (choices.bundle s) (are.bundles s l)).reached in
        subst (λ v. (pos (choices.bundle s).den *ℤ u s) ≤ℤ v) (sym r.2) (model.none_above r.0 s r.1 l)

    pub numbers_rationalize : (utility : FractionBundle → SignedFraction) → IsUtilityOfNumbers choices u m utility → Rationalizes choices (preference_of utility)
    numbers_rationalize utility is s l x ix affordable =
        let y = choices.bundle s in
        let below = at_most_times (utility x).num (pos x.den *ℤ u s) y.den (affords_at_most utility is s x l ix affordable) in
        let above = at_most_times (pos y.den *ℤ u s) (utility y).num x.den (chosen_at_least utility is s l) in
        subst (λ d. ((utility x).num *ℤ pos (utility y).den) ≤ℤ ((utility y).num *ℤ pos d)) (sym (is.over x ix))
        (subst (λ d. ((utility x).num *ℤ pos d) ≤ℤ ((utility y).num *ℤ pos x.den)) (sym (is.over y (are.bundles s l)))
        (at_most_on _ _ _ below (subst (λ v. v ≤ℤ ((utility y).num *ℤ pos x.den)) (turned (u s) y.den x.den) above)))
      where
        turned : (z : ℤ) (d e : ℕ) → (pos d *ℤ z) *ℤ pos e ≡ (pos e *ℤ z) *ℤ pos d
        turned z d e =
            equal_by ((pos d *ℤ z) *ℤ pos e) ((pos e *ℤ z) *ℤ pos d) ((d * up z) * e) ((d * down z) * e) ((e * up z) * d) ((e * down z) * d)
            (is_times (pos d *ℤ z) e (d * up z) (d * down z) (times_is d z (up z) (down z) (by_itself z)))
            (is_times (pos e *ℤ z) d (e * up z) (e * down z) (times_is e z (up z) (down z) (by_itself z))) (omega arith)

    pub have_utility : HaveUtility choices u m
    have_utility =
        let r = least_utility choices.n allowed are.some in
        record {
          utility = r.0;
          of_numbers = utility_of_numbers r.0 r.1;
          concave_utility = concave_utility choices.n choices.goods choices.price (λ s. up (u s)) (λ s. m s * choices.scale) (λ s. down (u s) + m s * choices.own s) allowed allowed_affine r.0 r.1 are.some_goods are.positive_prices;
          rationalizes = numbers_rationalize r.0 (utility_of_numbers r.0 r.1);
        }

-- ---- one denominator

-- the denominators of n bundles have a multiple
pub record IsMultiple (n : ℕ) (den : ℕ → ℕ) (common : ℕ) (times : ℕ → ℕ) : Type 0 where
  pub positive : 0 < common
  pub each : (t : ℕ) → t < n → times t * den t ≡ common

pub multiple_exists : (n : ℕ) (den : ℕ → ℕ) → ((t : ℕ) → t < n → 0 < den t) → (common : ℕ) × (times : ℕ → ℕ) × IsMultiple n den common times
multiple_exists zero den positive = (1, λ t. 1, record { positive = omega arith; each = λ t l. absurd (omega arith) })
multiple_exists (suc n) den positive =
    let before = multiple_exists n den (λ t l. positive t (omega arith)) in (
      before.0 * den n,
      λ t. with_next before.0 before.1 t (cases_eq t n),
      record {
        positive = mul-pos before.2.positive (positive n (omega arith));
        each = λ t l. by_case before.0 before.1 before.2 t l (cases_eq t n);
      },
    )
  where
    with_next : ℕ → (ℕ → ℕ) → (t : ℕ) → (t ≡ n) ⊎ ¬ (t ≡ n) → ℕ
    with_next common times t (inl e) = common
    with_next common times t (inr d) = times t * den n

    by_case : (common : ℕ) (times : ℕ → ℕ) → IsMultiple n den common times → (t : ℕ) → t < suc n → (c : (t ≡ n) ⊎ ¬ (t ≡ n)) → with_next common times t c * den t ≡ common * den n
    by_case common times is t l (inl e) = ap (λ v. common * den v) e
    by_case common times is t l (inr d) = let h = is.each t (omega arith) in let k = ap (λ v. v * den n) h in omega arith

-- ---- a model exists

module _ (choices : Choices) (are : AreChoices choices) where
  module _ (common : ℕ) (times : ℕ → ℕ) (multiple : IsMultiple choices.n (λ t. (choices.bundle t).den) common times) where
    abbrev whole_cost : ℕ → ℕ → ℕ
    whole_cost s t = times t * scaled_cost choices (choices.bundle t) s

    abbrev whole_own : ℕ → ℕ
    whole_own s = choices.own s * common

    times_positive : (t : ℕ) → t < choices.n → 0 < times t
    times_positive t l = go (times t) (choices.bundle t).den common multiple.positive (multiple.each t l)
      where
        go : (k d c : ℕ) → 0 < c → k * d ≡ c → 0 < k
        go zero d c p e = omega arith
        go (suc k) d c p e = omega arith

    weak_whole : (s t : ℕ) → s < choices.n → t < choices.n → IsWeakChoice choices s t ↔ (whole_cost s t ≤ whole_own s)
    weak_whole s t a b = (
      λ h. let k : times t * scaled_cost choices (choices.bundle t) s ≤ times t * (choices.own s * (choices.bundle t).den) = mul-le-mul_left (times t) h in
          let e = ap (λ v. choices.own s * v) (multiple.each t b) in omega arith,
      λ h. le_of_mul-le-mul_left {k = times t} (let e = ap (λ v. choices.own s * v) (multiple.each t b) in omega arith) (times_positive t b),
    )

    strict_whole : (s t : ℕ) → s < choices.n → t < choices.n → IsStrictChoice choices s t ↔ (whole_cost s t < whole_own s)
    strict_whole s t a b = (
      λ h. let k : times t * scaled_cost choices (choices.bundle t) s < times t * (choices.own s * (choices.bundle t).den) = mul-lt-mul_of_pos_left h (times_positive t b) in
          let e = ap (λ v. choices.own s * v) (multiple.each t b) in omega arith,
      λ h. lt_of_mul-lt-mul_left (times t) (let e = ap (λ v. choices.own s * v) (multiple.each t b) in omega arith),
    )

    whole_model : MeetAxiom choices → (u : ℕ → ℤ) × (m : ℕ → ℕ) × IsModelBy choices.n whole_cost whole_own u m
    whole_model holds =
        model_exists choices.n (λ s t. whole_cost s t ≤ whole_own s) whole_cost whole_own (λ s t. (λ h. h, λ h. h)) (λ s t. whole_cost s t < whole_own s) (λ s t. (λ h. h, λ h. h))
        (no_violation_same choices.n (IsWeakChoice choices) (IsStrictChoice choices) (λ s t. whole_cost s t ≤ whole_own s) (λ s t. whole_cost s t < whole_own s) weak_whole strict_whole holds)

    none_above : (u : ℕ → ℤ) (m : ℕ → ℕ) → IsModelBy choices.n whole_cost whole_own u m → (s t : ℕ) → s < choices.n → t < choices.n
        → (pos (choices.bundle t).den *ℤ u t) ≤ℤ allowed_for_by choices.own u (λ r. m r * common) (choices.bundle t).den (scaled_cost choices (choices.bundle t)) s
    none_above u m model s t a b =
        bounded (u s) (u t) (m s) common (times t) (choices.bundle t).den (scaled_cost choices (choices.bundle t) s) (choices.own s) (multiple.each t b) (model.none_above s t a b)
      where
        bounded : (x y : ℤ) (k d j e z o : ℕ) → j * e ≡ d → y ≤ℤ (x +ℤ (pos k *ℤ (pos (j * z) -ℤ pos (o * d)))) → (pos e *ℤ y) ≤ℤ ((pos e *ℤ x) +ℤ (pos (k * d) *ℤ (pos z -ℤ pos (e * o))))
        bounded x y k d j e z o same h =
            let p = at_most_parts y (x +ℤ (pos k *ℤ (pos (j * z) -ℤ pos (o * d)))) (up y) (down y) (up x + k * (j * z + 0)) (down x + k * (0 + o * d)) (by_itself y)
            (sum_is x (pos k *ℤ (pos (j * z) -ℤ pos (o * d))) (up x) (down x) (k * (j * z + 0)) (k * (0 + o * d)) (by_itself x)
            (times_is k (pos (j * z) -ℤ pos (o * d)) (j * z + 0) (0 + o * d) (less_is (pos (j * z)) (pos (o * d)) (j * z) 0 (o * d) 0 (of_whole (j * z)) (of_whole (o * d))))) h in
            let q : e * (up y + (down x + k * (0 + o * d))) ≤ e * ((up x + k * (j * z + 0)) + down y) = mul-le-mul_left e p in
            let g = ap (λ v. (k * z) * v) same in
            at_most_by (pos e *ℤ y) ((pos e *ℤ x) +ℤ (pos (k * d) *ℤ (pos z -ℤ pos (e * o)))) (e * up y) (e * down y) (e * up x + (k * d) * (z + 0)) (e * down x + (k * d) * (0 + e * o))
            (times_is e y (up y) (down y) (by_itself y))
            (sum_is (pos e *ℤ x) (pos (k * d) *ℤ (pos z -ℤ pos (e * o))) (e * up x) (e * down x) ((k * d) * (z + 0)) ((k * d) * (0 + e * o)) (times_is e x (up x) (down x) (by_itself x))
            (times_is (k * d) (pos z -ℤ pos (e * o)) (z + 0) (0 + e * o) (less_is (pos z) (pos (e * o)) z 0 (e * o) 0 (of_whole z) (of_whole (e * o)))))
            (omega arith)

    model_over_common : MeetAxiom choices → (u : ℕ → ℤ) × (m : ℕ → ℕ) × IsModelOfChoices choices u m
    model_over_common holds =
        let r = whole_model holds in
        (r.0, λ s. r.1 s * common, record { at_least_one = λ s l. mul-pos (r.2.at_least_one s l) multiple.positive; none_above = none_above r.0 r.1 r.2 })

  pub model_of_choices : MeetAxiom choices → (u : ℕ → ℤ) × (m : ℕ → ℕ) × IsModelOfChoices choices u m
  model_of_choices =
      let r = multiple_exists choices.n (λ t. (choices.bundle t).den) are.bundles in
      model_over_common r.0 r.1 r.2

  pub model_and_utility : MeetAxiom choices → (u : ℕ → ℤ) × (m : ℕ → ℕ) × IsModelOfChoices choices u m × HaveUtility choices u m
  model_and_utility holds =
      let r = model_of_choices holds in
      (r.0, r.1, r.2, have_utility choices are r.0 r.1 r.2.at_least_one r.2)

  pub concave_utility_exists : MeetAxiom choices → HasConcaveUtility choices
  concave_utility_exists holds =
      let r = model_and_utility holds in
      record { utility = r.3.utility; concave_utility = r.3.concave_utility; rationalizes = r.3.rationalizes }
