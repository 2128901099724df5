-- Afriat's theorem for whole costs: where the axiom holds the standard numbers exist, once, and are a model. Classes
-- are by count: a bundle of a higher class costs more than an observation is held to, so each class gets its utility,
-- and its observations their multipliers, from the classes above it; strict steps lead to lower classes, so the numbers
-- are a model.
use Rattle.std.proofs.Common.{◌≡◌, ◌≢◌, ℕ, ◌<◌, ◌≤◌, ◌⊎◌, ◌↔◌, inl, inr, refl, sym, subst, ◌∙◌, arith}
use Rattle.std.proofs.lemmas.Bool.{cases_lt}
use Rattle.std.specs.Prelude.{ℤ}
use Rattle.rp_evidence.specs.Afriat.{IsModelBy}
use Rattle.rp_evidence.specs.Count.{IsCount}
use Rattle.rp_evidence.specs.Garp.{HasNoViolation}
use Rattle.rp_evidence.specs.StandardNumbers.{AllFit, AreNumbersBy, AreStandardBy, FitsMultiplier, FitsUtility, IsClassUtilityBy, IsMultiplierBy, PassWidthFirstAt}
use Rattle.rp_evidence.proofs.AfriatClasses.{class_utility_is_one, standard_above_agree, standard_is_model}
use Rattle.rp_evidence.proofs.AfriatStages.{standard_above_exists}
use Rattle.rp_evidence.proofs.Counts.{count_falls, count_is_one, count_never_rises, no_way_back}
use Rattle.rp_evidence.proofs.Reachability.{count_of, count_of-counts, count_of-within}

-- ---- by the weak and the strict steps of a preference that compares costs with what observations are held to

abbrev pub ComparesWeakly : (ℕ → ℕ → Type 0) → (ℕ → ℕ → ℕ) → (ℕ → ℕ) → Type 0
ComparesWeakly weak cost own = (s t : ℕ) → weak s t ↔ (cost s t ≤ own s)

abbrev pub ComparesStrictly : (ℕ → ℕ → Type 0) → (ℕ → ℕ → ℕ) → (ℕ → ℕ) → Type 0
ComparesStrictly strict cost own = (s t : ℕ) → strict s t ↔ (cost s t < own s)

module _ (n : ℕ) (weak : ℕ → ℕ → Type 0) (cost : ℕ → ℕ → ℕ) (own : ℕ → ℕ) (weak_is : ComparesWeakly weak cost own) where
  weak_or_not : (s t : ℕ) → weak s t ⊎ ¬ weak s t
  weak_or_not s t = elim (cases_lt (own s) (cost s t)) [
    | inl l ↦ inr (λ h. let k = (weak_is s t).0 h in omega arith)
    | inr l ↦ inl ((weak_is s t).1 l)
  ]

  module _ (count : ℕ → ℕ) (are : (s : ℕ) → s < n → IsCount n weak s (count s)) where
    -- a higher class is not weakly preferred to
    pub costs_more : (s t : ℕ) → s < n → t < n → count s < count t → own s < cost s t
    costs_more s t a b l = elim (cases_lt (own s) (cost s t)) [
      | inl g ↦ g
      | inr g ↦ absurd (omega (arith, count_never_rises n weak s t a b ((weak_is s t).1 g) (count s) (count t) (are s a) (are t b)))
    ]

    module _ (strict : ℕ → ℕ → Type 0) (strict_is : ComparesStrictly strict cost own) (holds : HasNoViolation n weak strict) where
      strict_is_weak : (s t : ℕ) → strict s t → weak s t
      strict_is_weak s t h = (weak_is s t).1 (let k = (strict_is s t).0 h in omega arith)

      pub counts_fall : (s t : ℕ) → s < n → t < n → cost s t < own s → count t < count s
      counts_fall s t a b l =
          let h = (strict_is s t).1 l in
          count_falls n weak s t a b (strict_is_weak s t h) (count s) (count t) (no_way_back n weak strict (λ i j _ _. strict_is_weak i j) holds s t a b h) (are s a) (are t b)

pub count_is_some : (n : ℕ) (step : ℕ → ℕ → Type 0) (s k : ℕ) → s < n → IsCount n step s k → 1 ≤ k
count_is_some n step s k a p = let h = (p.1.just_these s).1 (a, inl refl) in omega (arith, p.2, h.1)

module _ (n : ℕ) (weak : ℕ → ℕ → Type 0) (cost : ℕ → ℕ → ℕ) (own : ℕ → ℕ) (weak_is : ComparesWeakly weak cost own) where
  pub count_is_within : (s k : ℕ) → s < n → IsCount n weak s k → k ≤ n
  count_is_within s k a p =
      let e = count_is_one n weak s k (count_of n weak (weak_or_not n weak cost own weak_is) s) p (count_of-counts n weak (weak_or_not n weak cost own weak_is) s a) in
      omega (arith, e, count_of-within n weak (weak_or_not n weak cost own weak_is) s)

  pub standard_model : (strict : ℕ → ℕ → Type 0) → ComparesStrictly strict cost own → (count : ℕ → ℕ) (u : ℕ → ℤ) (m : ℕ → ℕ) → AreStandardBy n weak cost own count u m → HasNoViolation n weak strict → IsModelBy n cost own u m
  standard_model strict strict_is count u m are holds =
      standard_is_model n cost own count u m (counts_fall n weak cost own weak_is count are.counts strict strict_is holds) are.each

  -- for the counts that are at hand
  pub standard_exists_for : (count : ℕ → ℕ) → ((s : ℕ) → s < n → IsCount n weak s (count s)) → (u : ℕ → ℤ) × (m : ℕ → ℕ) × AreStandardBy n weak cost own count u m
  standard_exists_for count counts =
      let r = standard_above_exists n cost own count (costs_more n weak cost own weak_is count counts) n n 0 (λ s a. count_is_within s (count s) a (counts s a)) (omega arith) in
      (r.0, r.1, record { counts = counts; each = λ t a. r.2 t a (count_is_some n weak t (count t) a (counts t a)) })

  pub standard_exists : (count : ℕ → ℕ) × (u : ℕ → ℤ) × (m : ℕ → ℕ) × AreStandardBy n weak cost own count u m
  standard_exists =
      let count = count_of n weak (weak_or_not n weak cost own weak_is) in
      let r = standard_exists_for count (count_of-counts n weak (weak_or_not n weak cost own weak_is)) in
      (count, r.0, r.1, r.2)

  pub model_exists : (strict : ℕ → ℕ → Type 0) → ComparesStrictly strict cost own → HasNoViolation n weak strict → (u : ℕ → ℤ) × (m : ℕ → ℕ) × IsModelBy n cost own u m
  model_exists strict strict_is holds = let r = standard_exists in (r.1, r.2, standard_model strict strict_is r.0 r.1 r.2 r.3 holds)

  -- the same numbers by counts that are the same
  module _ (count other : ℕ → ℕ) (u : ℕ → ℤ) (m : ℕ → ℕ) (same : (s : ℕ) → s < n → count s ≡ other s) where
    other_counts : (t : ℕ) → t < n → AreNumbersBy n cost own count u m t → AreNumbersBy n cost own other u m t
    other_counts t a is = record { utility_is = subst (λ k. IsClassUtilityBy n cost own other u m k (u t)) (same t a) utility; multiplier_is = multiplier }
      where
        utility : IsClassUtilityBy n cost own other u m (count t) (u t)
        utility = record {
          highest = λ h. is.utility_is.highest (λ s i. omega (arith, same s i, h s i));
          least = λ s r i j l e. is.utility_is.least s r i j (omega (arith, same s i, l)) (same r j ∙ e);
          reached = λ h i l.
              let x = is.utility_is.reached h i (omega (arith, same h i, l)) in
              (x.0, x.1, x.2, x.3, omega (arith, x.4, same x.0 x.2), sym (same x.1 x.3) ∙ x.5, x.6);
        }

        multiplier : IsMultiplierBy n cost own other u t (m t)
        multiplier = record {
          at_least_one = is.multiplier_is.at_least_one;
          enough = λ s i l. is.multiplier_is.enough s i (omega (arith, same s i, same t a, l));
          least = λ j i h. is.multiplier_is.least j i (λ s b l. h s b (omega (arith, same s b, same t a, l)));
        }

  pub standard_is_one : (count other : ℕ → ℕ) (u v : ℕ → ℤ) (m k : ℕ → ℕ) → AreStandardBy n weak cost own count u m → AreStandardBy n weak cost own other v k → (s : ℕ) → s < n → (u s ≡ v s) × (m s ≡ k s)
  standard_is_one count other u v m k a b s in_s =
      let same : (t : ℕ) → t < n → count t ≡ other t = λ t i. count_is_one n weak t (count t) (other t) (a.counts t i) (b.counts t i) in
      standard_above_agree n cost own other n 0 u v m k (λ t i. count_is_within t (other t) i (b.counts t i))
      (λ t i l. other_counts count other u m same t i (a.each t i))
      (λ t i l. b.each t i)
      s in_s (count_is_some n weak s (other s) in_s (b.counts s in_s))

-- ---- the place where the widths are passed

pub fitting_pass_nowhere : (n t : ℕ) (count : ℕ → ℕ) (u : ℕ → ℤ) (m : ℕ → ℕ) → AllFit n u m → ¬ PassWidthFirstAt n count u m t
fitting_pass_nowhere n t count u m fit first = elim first.passes [
  | inl h ↦ h.0 (fit t first.observed).0
  | inr h ↦ h.1 (fit t first.observed).1
]

module _ (n : ℕ) (weak : ℕ → ℕ → Type 0) (cost : ℕ → ℕ → ℕ) (own count : ℕ → ℕ) (u : ℕ → ℤ) (m : ℕ → ℕ) (are : AreStandardBy n weak cost own count u m) where
  class_has_one : (s t : ℕ) → s < n → t < n → count s ≡ count t → u s ≡ u t
  class_has_one s t a b e =
      class_utility_is_one n cost own count (count t) u m (u s) (u t) (subst (λ k. IsClassUtilityBy n cost own count u m k (u s)) e (are.each s a).utility_is) (are.each t b).utility_is

  not_above : (s t : ℕ) → PassWidthFirstAt n count u m s → PassWidthFirstAt n count u m t → ¬ (count t < count s)
  not_above s t a b l = let f = b.higher_fit s a.observed l in elim a.passes [ inl h ↦ h.0 f.0 | inr h ↦ h.1 f.1 ]

  not_earlier : (s t : ℕ) → PassWidthFirstAt n count u m s → PassWidthFirstAt n count u m t → count s ≡ count t → ¬ (s < t)
  not_earlier s t a b e l = go a.passes b.passes
    where
      go : ((¬ FitsUtility (u s)) × ((r : ℕ) → r < s → count r ≢ count s)) ⊎ (FitsUtility (u s) × (¬ FitsMultiplier (m s)) × ((r : ℕ) → r < s → count r ≡ count s → FitsMultiplier (m r))) → ((¬ FitsUtility (u t)) × ((r : ℕ) → r < t → count r ≢ count t)) ⊎ (FitsUtility (u t) × (¬ FitsMultiplier (m t)) × ((r : ℕ) → r < t → count r ≡ count t → FitsMultiplier (m r))) → ⊥
      go p (inl q) = q.1 s l e
      go (inl p) (inr q) = p.0 (subst FitsUtility (sym (class_has_one s t a.observed b.observed e)) q.0)
      go (inr p) (inr q) = p.1 (q.2 s l e)

  pub passed_first_once : (s t : ℕ) → PassWidthFirstAt n count u m s → PassWidthFirstAt n count u m t → s ≡ t
  passed_first_once s t a b =
      let x = not_above s t a b in
      let y = not_above t s b a in
      let e : count s ≡ count t = omega arith in
      let z = not_earlier s t a b e in
      let w = not_earlier t s b a (sym e) in
      omega arith
