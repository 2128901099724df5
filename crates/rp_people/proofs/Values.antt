-- The values of the homothetic test give a homogeneous utility, and values exist where the test holds.
use Rattle.std.proofs.Common.{◌≡◌, ℕ, zero, suc, ◌+◌, ◌*◌, ◌<◌, ◌≤◌, inl, inr, List, [], ◌∷◌, ap, refl, sym, subst, arith}
use Rattle.std.proofs.lemmas.Bool.{cases_lt}
use Rattle.std.proofs.lemmas.Int.{ints}
use Rattle.std.proofs.Math.Nat.{le-max_left, le_of_mul-le-mul_left, mul-le-mul, mul-le-mul_left, one-le-mul}
use Rattle.std.specs.Prelude.{ℤ, max, pos, ◌*ℤ◌, ◌≤ℤ◌}
use Rattle.rp_table.specs.Spending.{spending}
use Rattle.rp_evidence.specs.Demand.{FractionBundle}
use Rattle.rp_evidence.specs.Homothetic.{MeetsHomotheticTest, product_from}
use Rattle.rp_evidence.specs.Input.{TableInput}
use Rattle.rp_evidence.specs.Walk.{AnyStep, LeadsTo}
use Rattle.rp_evidence.specs.WelfareModels.{bundle_at}
use Rattle.rp_evidence.proofs.Walks.{starts_below}
use Rattle.rp_people.specs.Bundles.{IsBundle}
use Rattle.rp_people.specs.Choices.{IsAffordable}
use Rattle.rp_people.specs.Fractions.{SignedFraction}
use Rattle.rp_people.specs.Rationalizing.{HasHomogeneousUtility, Rationalizes}
use Rattle.rp_people.specs.TableChoices.{IsFullInput, choices_at}
use Rattle.rp_people.specs.Utilities.{preference_of}
use Rattle.rp_people.proofs.Affine.{IsAffine}
use Rattle.rp_people.proofs.AfriatUtilities.{IsMultiple, multiple_exists}
use Rattle.rp_people.proofs.Differences.{IsDifference, at_most_on, at_most_times}
use Rattle.rp_people.proofs.Minima.{IsLeastOf, concave_utility, homogeneous, least_utility}
use Rattle.rp_people.proofs.Potentials.{AreWeights, along, potentials}

-- ---- from values to a utility

-- positive values v/w of n observations, and no V_s is above V_t c(t,s)/c(t,t)
pub record AreValues (n : ℕ) (c : ℕ → ℕ → ℕ) (v w : ℕ → ℕ) : Type 0 where
  pub positive : (s : ℕ) → s < n → (1 ≤ v s) × (1 ≤ w s)
  pub each : (t s : ℕ) → t < n → s < n → v s * (w t * c t t) ≤ (v t * c t s) * w s

module _ (input : TableInput) (full : IsFullInput input) (v w : ℕ → ℕ) (are : AreValues input.n input.cost v w) where
  spent_positive : (t : ℕ) → t < input.n → 0 < w t * input.cost t t
  spent_positive t l = one-le-mul (are.positive t l).1 (full.positive_costs t t l l)

  module _ (common : ℕ) (times : ℕ → ℕ) (multiple : IsMultiple input.n (λ t. w t * input.cost t t) common times) where
    -- V_t times what the bundle costs, over what was spent at t; all times one number
    abbrev worth : ℕ → FractionBundle → ℤ
    worth t x = pos ((v t * times t) * spending input.goods (input.price t) x.num)

    times_some : (t : ℕ) → t < input.n → 1 ≤ times t
    times_some t l = go (times t) (w t * input.cost t t) common multiple.positive (multiple.each t l)
      where
        go : (k d c : ℕ) → 0 < c → k * d ≡ c → 1 ≤ k
        go zero d c p e = omega arith
        go (suc k) d c p e = omega arith

    worth_affine : (t : ℕ) → t < input.n → IsAffine input.goods (input.price t) 0 (v t * times t) 0 (worth t)
    worth_affine t l = record {
      rises = one-le-mul (are.positive t l).0 (times_some t l);
      is = λ x. whole x.den ((v t * times t) * spending input.goods (input.price t) x.num);
    }
      where
        whole : (d p : ℕ) → IsDifference (pos p) (d * 0 + p) (d * 0)
        whole d p = omega (arith, ints)

    module _ (utility : FractionBundle → SignedFraction) (is : IsLeastOf input.n worth utility) where
      affords_at_most : (s : ℕ) (x : FractionBundle) → s < input.n → IsBundle x → IsAffordable (choices_at input 1 1) s x → (utility x).num ≤ℤ pos (((v s * times s) * input.cost s s) * x.den)
      affords_at_most s x l ix affordable =
          let k : (v s * times s) * (1 * spending input.goods (input.price s) x.num) ≤ (v s * times s) * ((1 * input.cost s s) * x.den) = mul-le-mul_left (v s * times s) affordable in
          at_most_on (utility x).num (worth s x) (pos (((v s * times s) * input.cost s s) * x.den)) ((is.least x ix).least s l)
          (no_more ((v s * times s) * spending input.goods (input.price s) x.num) (((v s * times s) * input.cost s s) * x.den) (omega arith))
        where
          no_more : (a b : ℕ) → a ≤ b → pos a ≤ℤ pos b
          no_more a b h = omega (arith, ints)

      chosen_at_least : (s : ℕ) → s < input.n → pos ((v s * times s) * input.cost s s) ≤ℤ (utility (bundle_at input s)).num
      chosen_at_least s l =
          let r = (is.least (bundle_at input s) (omega arith)).reached in
          let t = r.0 in
          let e : spending input.goods (input.price t) (input.quantity s) ≡ input.cost t s = sym (input.sums t s r.1 l) in
          let h : times t * (v s * (w t * input.cost t t)) ≤ times t * ((v t * input.cost t s) * w s) = mul-le-mul_left (times t) (are.each t s r.1 l) in
          let ft = ap (λ z. v s * z) (multiple.each t r.1) in
          let fs = ap (λ z. v s * z) (multiple.each s l) in
          let g : (v s * times s) * input.cost s s ≤ (v t * times t) * input.cost t s = le_of_mul-le-mul_left {k = w s} (omega arith) (are.positive s l).1 in
          subst (λ z. pos ((v s * times s) * input.cost s s) ≤ℤ z) (sym r.2)
          (subst (λ z. pos ((v s * times s) * input.cost s s) ≤ℤ pos ((v t * times t) * z)) (sym e) (no_more ((v s * times s) * input.cost s s) ((v t * times t) * input.cost t s) g))
        where
          no_more : (a b : ℕ) → a ≤ b → pos a ≤ℤ pos b
          no_more a b h = omega (arith, ints)

      values_rationalize : Rationalizes (choices_at input 1 1) (preference_of utility)
      values_rationalize s l x ix affordable =
          let y = bundle_at input s in
          let below = at_most_times (utility x).num (pos (((v s * times s) * input.cost s s) * x.den)) 1 (affords_at_most s x l ix affordable) in
          let above = at_most_times (pos ((v s * times s) * input.cost s s)) (utility y).num x.den (chosen_at_least s l) in
          subst (λ d. ((utility x).num *ℤ pos (utility y).den) ≤ℤ ((utility y).num *ℤ pos d)) (sym (is.over x ix))
          (subst (λ d. ((utility x).num *ℤ pos d) ≤ℤ ((utility y).num *ℤ pos x.den)) (sym (is.over y (omega arith)))
          (at_most_on _ _ _ below (subst (λ z. z ≤ℤ ((utility y).num *ℤ pos x.den)) (once ((v s * times s) * input.cost s s) x.den) above)))
        where
          once : (a d : ℕ) → pos a *ℤ pos d ≡ pos (a * d) *ℤ pos 1
          once a d = omega (arith, ints)

    utility_over_common : HasHomogeneousUtility (choices_at input 1 1)
    utility_over_common =
        let r = least_utility input.n worth full.some in
        record {
          utility = r.0;
          concave_utility = concave_utility input.n input.goods input.price (λ t. 0) (λ t. v t * times t) (λ t. 0) worth worth_affine r.0 r.1 full.some_goods full.positive_prices;
          homogeneous = homogeneous input.n input.goods input.price (λ t. 0) (λ t. v t * times t) (λ t. 0) worth worth_affine r.0 r.1 (λ s l. refl);
          rationalizes = values_rationalize r.0 r.1;
        }

  pub values_give_utility : HasHomogeneousUtility (choices_at input 1 1)
  values_give_utility =
      let r = multiple_exists input.n (λ t. w t * input.cost t t) spent_positive in
      utility_over_common r.0 r.1 r.2

-- ---- values exist

record Ratio : Type 0 where
  num : ℕ
  den : ℕ
  num_some : 1 ≤ num
  den_some : 1 ≤ den

abbrev AtMost : Ratio → Ratio → Type 0
AtMost x y = x.num * y.den ≤ y.num * x.den

abbrev product : Ratio → Ratio → Ratio
product x y = record { num = x.num * y.num; den = x.den * y.den; num_some = one-le-mul x.num_some y.num_some; den_some = one-le-mul x.den_some y.den_some }

abbrev one : Ratio
one = record { num = 1; den = 1; num_some = omega arith; den_some = omega arith }

ratios : AreWeights Ratio AtMost product one
ratios = record {
  either = λ x y. elim (cases_lt (x.num * y.den) (y.num * x.den)) [ inl l ↦ inl (omega arith) | inr l ↦ inr l ];
  through = λ x y z h k. on x.num x.den y.num y.den z.num z.den y.den_some h k;
  both = λ x y z w h k. let m = mul-le-mul h k in omega arith;
  to_left = λ x y z. omega arith;
  to_right = λ x y z. omega arith;
  none_before = λ x. omega arith;
  none_after = λ x. omega arith;
  after_none = λ x. omega arith;
}
  where
    on : (a b c d e f : ℕ) → 1 ≤ d → a * d ≤ c * b → c * f ≤ e * d → a * f ≤ e * b
    on a b c d e f some h k =
        let p : f * (a * d) ≤ f * (c * b) = mul-le-mul_left f h in
        let q : b * (c * f) ≤ b * (e * d) = mul-le-mul_left b k in
        le_of_mul-le-mul_left {k = d} (omega arith) some

module _ (n : ℕ) (c : ℕ → ℕ → ℕ) (positive : (s t : ℕ) → s < n → t < n → 1 ≤ c s t) where
  abbrev ratio : ℕ → ℕ → Ratio
  ratio t s = record { num = max 1 (c t s); den = max 1 (c t t); num_some = le-max_left 1 (c t s); den_some = le-max_left 1 (c t t) }

  same : (k : ℕ) → 1 ≤ k → max 1 k ≡ k
  same k l = omega arith

  along_is : (t s : ℕ) (w : List ℕ) → LeadsTo n AnyStep t s w
      → ((along Ratio AtMost product one ratios ratio t w).num ≡ product_from c t w) × ((along Ratio AtMost product one ratios ratio t w).den ≡ product_from (λ i j. c i i) t w)
  along_is t s [] h = (refl, refl)
  along_is t s (x ∷ w) h =
      let b = starts_below n AnyStep x s w h.2 in
      let e = along_is x s w h.2 in (
        (λ i. same (c t x) (positive t x h.0 b) i * e.0 i),
        (λ i. same (c t t) (positive t t h.0 h.0) i * e.1 i),
      )

  never_falls : MeetsHomotheticTest n c → (s x : ℕ) (w : List ℕ) → LeadsTo n AnyStep s s (x ∷ w) → AtMost one (along Ratio AtMost product one ratios ratio s (x ∷ w))
  never_falls holds s x w h =
      let e = along_is s s (x ∷ w) h in
      let l : product_from (λ i j. c i i) s (x ∷ w) ≤ product_from c s (x ∷ w) = holds (s ∷ x ∷ w) (s, (refl, h), omega arith) in
      omega arith

  pub values_exist : 1 ≤ n → MeetsHomotheticTest n c → (v : ℕ → ℕ) × (w : ℕ → ℕ) × AreValues n c v w
  values_exist some holds =
      let r = potentials Ratio AtMost product one ratios ratio n (never_falls holds) some in (
        λ s. (r.0 s).num,
        λ s. (r.0 s).den,
        record {
          positive = λ s l. ((r.0 s).num_some, (r.0 s).den_some);
          each = λ t s a b.
              let e = same (c t s) (positive t s a b) in
              let d = same (c t t) (positive t t a a) in
              bounded (r.0 s).num (r.0 s).den (r.0 t).num (r.0 t).den (max 1 (c t s)) (max 1 (c t t)) (c t s) (c t t) e d (r.1 t s a b);
        },
      )
    where
      bounded : (a b d e p q i j : ℕ) → p ≡ i → q ≡ j → a * (e * q) ≤ (d * p) * b → a * (e * j) ≤ (d * i) * b
      bounded a b d e p q i j same_p same_q h =
          subst (λ z. a * (e * j) ≤ (d * z) * b) same_p (subst (λ z. a * (e * z) ≤ (d * p) * b) same_q h)
