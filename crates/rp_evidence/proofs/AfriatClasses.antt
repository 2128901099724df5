-- The standard numbers, class by class: what they depend on, that there is one choice only, and that they are a model.
use Rattle.std.proofs.Common.{◌≡◌, ℕ, zero, suc, ◌+◌, ◌<◌, ◌≤◌, ◌⊎◌, inl, inr, refl, sym, subst, ◌∙◌, arith}
use Rattle.std.proofs.lemmas.Bool.{cases_eq, cases_lt}
use Rattle.std.proofs.lemmas.Int.{ints}
use Rattle.std.specs.Prelude.{ℤ, ◌≤ℤ◌}
use Rattle.rp_evidence.specs.Afriat.{IsModelBy, allowed_by}
use Rattle.rp_evidence.specs.StandardNumbers.{AllowsHigherBy, AreNumbersBy, IsClassUtilityBy, IsMultiplierBy}
use Rattle.rp_evidence.proofs.AfriatSums.{allows_itself}

-- whether some observation is of a higher class
pub some_higher : (n : ℕ) (count : ℕ → ℕ) (class : ℕ) → ((s : ℕ) → s < n → count s ≤ class) ⊎ ((h : ℕ) × (h < n) × (class < count h))
some_higher zero count class = inl (λ s l. absurd (omega arith))
some_higher (suc n) count class = elim (some_higher n count class) [
  | inr h ↦ inr (h.0, omega (arith, h.1), h.2)
  | inl none ↦ go none (cases_lt class (count n))
]
  where
    go : ((s : ℕ) → s < n → count s ≤ class) → (class < count n) ⊎ (count n ≤ class) → ((s : ℕ) → s < suc n → count s ≤ class) ⊎ ((h : ℕ) × (h < suc n) × (class < count h))
    go none (inl l) = inr (n, omega arith, l)
    go none (inr l) = inl (λ s b. elim (cases_eq s n) [
      | inl e ↦ subst (λ x. count x ≤ class) (sym e) l
      | inr d ↦ none s (omega arith)
    ])

-- the same numbers on the observations of the classes above
abbrev pub AgreeAbove : ℕ → (ℕ → ℕ) → ℕ → (ℕ → ℤ) → (ℕ → ℕ) → (ℕ → ℤ) → (ℕ → ℕ) → Type 0
AgreeAbove n count class u m v k = (s : ℕ) → s < n → class < count s → (u s ≡ v s) × (m s ≡ k s)

-- the numbers of the classes above are the standard ones
abbrev pub AreStandardAbove : ℕ → (ℕ → ℕ → ℕ) → (ℕ → ℕ) → (ℕ → ℕ) → (ℕ → ℤ) → (ℕ → ℕ) → ℕ → Type 0
AreStandardAbove n cost own count u m class = (t : ℕ) → t < n → class < count t → AreNumbersBy n cost own count u m t

module _ (n : ℕ) (cost : ℕ → ℕ → ℕ) (own count : ℕ → ℕ) where
  -- what a class's utility and a multiplier depend on
  pub class_utility_same : (class : ℕ) (u v : ℕ → ℤ) (m k : ℕ → ℕ) (x : ℤ) → AgreeAbove n count class u m v k → IsClassUtilityBy n cost own count u m class x → IsClassUtilityBy n cost own count v k class x
  class_utility_same class u v m k x same is = record {
    highest = is.highest;
    least = λ s t a b l e. subst (λ z. x ≤ℤ z) (allowed_same s t a l) (is.least s t a b l e);
    reached = λ h a l. let r = is.reached h a l in (r.0, r.1, r.2, r.3, r.4, r.5, r.6 ∙ allowed_same r.0 r.1 r.2 r.4);
  }
    where
      allowed_same : (s t : ℕ) → s < n → class < count s → allowed_by cost own u m s t ≡ allowed_by cost own v k s t
      allowed_same s t a l = let e = same s a l in λ i. allowed_by cost own (λ _. e.0 i) (λ _. e.1 i) s t

  allows_same : (s j : ℕ) (u v : ℕ → ℤ) → u s ≡ v s → ((t : ℕ) → t < n → count s < count t → u t ≡ v t) → AllowsHigherBy n cost own count u s j → AllowsHigherBy n cost own count v s j
  allows_same s j u v here same h t a l =
      subst (λ z. z ≤ℤ allowed_by cost own v (λ i. j) s t) (same t a l)
      (subst (λ z. u t ≤ℤ allowed_by cost own (λ _. z) (λ i. j) s t) here (h t a l))

  pub multiplier_same : (s k : ℕ) (u v : ℕ → ℤ) → u s ≡ v s → ((t : ℕ) → t < n → count s < count t → u t ≡ v t) → IsMultiplierBy n cost own count u s k → IsMultiplierBy n cost own count v s k
  multiplier_same s k u v here same is = record {
    at_least_one = is.at_least_one;
    enough = allows_same s k u v here same is.enough;
    least = λ j l h. is.least j l (allows_same s j v u (sym here) (λ t a b. sym (same t a b)) h);
  }

  pub numbers_same : (t : ℕ) (u v : ℕ → ℤ) (m k : ℕ → ℕ) → AgreeAbove n count (count t) u m v k → u t ≡ v t → m t ≡ k t → AreNumbersBy n cost own count u m t → AreNumbersBy n cost own count v k t
  numbers_same t u v m k same e f is = record {
    utility_is = subst (λ z. IsClassUtilityBy n cost own count v k (count t) z) e (class_utility_same (count t) u v m k (u t) same is.utility_is);
    multiplier_is = subst (λ z. IsMultiplierBy n cost own count v t z) f (multiplier_same t (m t) u v e (λ s a l. (same s a l).0) is.multiplier_is);
  }

  pub standard_above_same : (class : ℕ) (u v : ℕ → ℤ) (m k : ℕ → ℕ) → AgreeAbove n count class u m v k → AreStandardAbove n cost own count u m class → AreStandardAbove n cost own count v k class
  standard_above_same class u v m k same are t a l =
      let e = same t a l in
      numbers_same t u v m k (λ s b g. same s b (omega (arith, l, g))) e.0 e.1 (are t a l)

  -- there is one choice only
  both_at_most : (x y : ℤ) → x ≤ℤ y → y ≤ℤ x → x ≡ y
  both_at_most x y a b = omega (arith, ints)

  pub class_utility_is_one : (class : ℕ) (u : ℕ → ℤ) (m : ℕ → ℕ) (x y : ℤ) → IsClassUtilityBy n cost own count u m class x → IsClassUtilityBy n cost own count u m class y → x ≡ y
  class_utility_is_one class u m x y a b = elim (some_higher n count class) [
    | inl none ↦ a.highest none ∙ sym (b.highest none)
    | inr h ↦ both_at_most x y (at_most x y a b h.0 h.1 h.2) (at_most y x b a h.0 h.1 h.2)
  ]
    where
      at_most : (x y : ℤ) → IsClassUtilityBy n cost own count u m class x → IsClassUtilityBy n cost own count u m class y → (h : ℕ) → h < n → class < count h → x ≤ℤ y
      at_most x y a b h in_h above =
          let r = b.reached h in_h above in
          subst (λ z. x ≤ℤ z) (sym r.6) (a.least r.0 r.1 r.2 r.3 r.4 r.5)

  pub multiplier_is_one : (s j k : ℕ) (u : ℕ → ℤ) → IsMultiplierBy n cost own count u s j → IsMultiplierBy n cost own count u s k → j ≡ k
  multiplier_is_one s j k u a b =
      let p = a.least k b.at_least_one b.enough in
      let q = b.least j a.at_least_one a.enough in
      omega arith

  numbers_are_one : (t : ℕ) (u v : ℕ → ℤ) (m k : ℕ → ℕ) → AgreeAbove n count (count t) u m v k → AreNumbersBy n cost own count u m t → AreNumbersBy n cost own count v k t → (u t ≡ v t) × (m t ≡ k t)
  numbers_are_one t u v m k same a b =
      let e = class_utility_is_one (count t) v k (u t) (v t) (class_utility_same (count t) u v m k (u t) same a.utility_is) b.utility_is in
      (e, multiplier_is_one t (m t) (k t) v (multiplier_same t (m t) u v e (λ s i l. (same s i l).0) a.multiplier_is) b.multiplier_is)

  -- from the highest class down: j classes numbers below a bound of the counts
  agree_down : (top j class : ℕ) (u v : ℕ → ℤ) (m k : ℕ → ℕ) → ((s : ℕ) → s < n → count s ≤ top) → top ≤ class + j → AreStandardAbove n cost own count u m class → AreStandardAbove n cost own count v k class → AgreeAbove n count class u m v k
  agree_down top zero class u v m k bound reach a b s in_s l = absurd (omega (arith, bound s in_s))
  agree_down top (suc j) class u v m k bound reach a b s in_s l =
      let higher = agree_down top j (suc class) u v m k bound (omega arith) (λ t i g. a t i (omega arith)) (λ t i g. b t i (omega arith)) in
      numbers_are_one s u v m k (λ t i g. higher t i (omega (arith, l, g))) (a s in_s l) (b s in_s l)

  pub standard_above_agree : (top class : ℕ) (u v : ℕ → ℤ) (m k : ℕ → ℕ) → ((s : ℕ) → s < n → count s ≤ top) → AreStandardAbove n cost own count u m class → AreStandardAbove n cost own count v k class → AgreeAbove n count class u m v k
  standard_above_agree top class u v m k bound a b = agree_down top top class u v m k bound (omega arith) a b

  -- they are a model where no weak step rises and each strict step falls
  pub standard_is_model : (u : ℕ → ℤ) (m : ℕ → ℕ) → ((s t : ℕ) → s < n → t < n → cost s t < own s → count t < count s) → ((t : ℕ) → t < n → AreNumbersBy n cost own count u m t) → IsModelBy n cost own u m
  standard_is_model u m falls are = record {
    at_least_one = λ s a. (are s a).multiplier_is.at_least_one;
    none_above = λ s t a b. by_class s t a b (cases_eq (count s) (count t));
  }
    where
      apart : (s t : ℕ) → s < n → t < n → (count s < count t) ⊎ (count t ≤ count s) → ¬ (count s ≡ count t) → u t ≤ℤ allowed_by cost own u m s t
      apart s t a b (inl l) d = (are s a).multiplier_is.enough t b l
      apart s t a b (inr l) d = (are t b).utility_is.least s t a b (omega arith) refl

      within : (s t : ℕ) → s < n → t < n → count s ≡ count t → u s ≡ u t
      within s t a b e =
          class_utility_is_one (count t) u m (u s) (u t) (subst (λ k. IsClassUtilityBy n cost own count u m k (u s)) e (are s a).utility_is) (are t b).utility_is

      no_strict : (s t : ℕ) → s < n → t < n → count s ≡ count t → own s ≤ cost s t
      no_strict s t a b e = elim (cases_lt (cost s t) (own s)) [
        | inl l ↦ absurd (omega (arith, falls s t a b l))
        | inr l ↦ l
      ]

      by_class : (s t : ℕ) → s < n → t < n → (count s ≡ count t) ⊎ ¬ (count s ≡ count t) → u t ≤ℤ allowed_by cost own u m s t
      by_class s t a b (inr d) = apart s t a b (cases_lt (count s) (count t)) d
      by_class s t a b (inl e) =
          subst (λ z. z ≤ℤ allowed_by cost own u m s t) (within s t a b e) (allows_itself (u s) (m s) (cost s t) (own s) (no_strict s t a b e))
