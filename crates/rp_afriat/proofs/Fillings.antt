-- How the numbers are filled in: one entry, one class, all classes.
use Rattle.std.proofs.Common.{◌≡◌, ◌<◌, ◌≤◌, ◌-◌, inl, inr, ℕ, List, length, slice_index, sym, subst, ◌∙◌, arith}
use Rattle.std.proofs.lemmas.Bool.{cases_eq}
use Rattle.std.specs.Prelude.{ℤ}
use Rattle.rp_evidence.specs.Count.{AreCounts}
use Rattle.rp_evidence.specs.StandardNumbers.{AreStandardBy, FitsMultiplier, FitsUtility, IsClassUtilityBy, IsMultiplierBy, PassWidthFirstAt}
use Rattle.rp_evidence.proofs.AfriatClasses.{AgreeAbove, class_utility_is_one, class_utility_same, multiplier_is_one, multiplier_same, standard_above_agree, standard_above_same}
use Rattle.rp_evidence.proofs.AfriatTheorem.{ComparesWeakly, count_is_some, count_is_within, standard_exists_for}
use Rattle.rp_afriat.specs.InnerFilling.{AreFilledAbove, AreMultipliersSet, FitAbove, IsClassSet, IsTooSteep, StandardNumbersPassAt, utility_of}

-- the utilities of a class are x below m, and all others are as they were
pub record IsClassSetBelow (m : ℕ) (counts : List ℕ) (class : ℕ) (x : ℤ) (before after : List ℤ) : Type 0 where
  pub as_long : length after ≡ length before
  pub set : (t : ℕ) → t < m → slice_index counts t ≡ class → utility_of after t ≡ x
  pub kept : (t : ℕ) → ¬ (slice_index counts t ≡ class) → utility_of after t ≡ utility_of before t

module _ (n : ℕ) (cost : ℕ → ℕ → ℕ) (own : ℕ → ℕ) (counts : List ℕ) (class : ℕ) (u : List ℤ) (lambda : List ℕ) (filled : AreFilledAbove n cost own counts u lambda class) (fit : FitAbove n counts u lambda class) where
  -- ---- a class that is empty

  pub empty_filled : ((s : ℕ) → s < n → ¬ (slice_index counts s ≡ class)) → AreFilledAbove n cost own counts u lambda (class - 1)
  empty_filled none t a l = filled t a (let d = none t a in omega arith)

  -- ---- a class that is filled

  module _ (x : ℤ) (is : IsClassUtilityBy n cost own (slice_index counts) (utility_of u) (slice_index lambda) class x) (u' : List ℤ) (set : IsClassSet n counts class x u u') where
    module _ (lambda' : List ℕ) (multipliers : AreMultipliersSet n n cost own counts class u' lambda lambda') where
      same_above : AgreeAbove n (slice_index counts) class (utility_of u) (slice_index lambda) (utility_of u') (slice_index lambda')
      same_above s a l = (sym (set.kept s a (λ e. omega arith)), sym (multipliers.kept s a (λ e. omega arith)))

      pub class_filled : AreFilledAbove n cost own counts u' lambda' (class - 1)
      class_filled t a l = elim (cases_eq (slice_index counts t) class) [
        | inr d ↦ standard_above_same n cost own (slice_index counts) class (utility_of u) (utility_of u') (slice_index lambda) (slice_index lambda') same_above filled t a (omega arith)
        | inl e ↦ record {
          utility_is = subst (λ z. IsClassUtilityBy n cost own (slice_index counts) (utility_of u') (slice_index lambda') z (utility_of u' t)) (sym e)
              (subst (λ z. IsClassUtilityBy n cost own (slice_index counts) (utility_of u') (slice_index lambda') class z) (sym (set.set t a e))
              (class_utility_same n cost own (slice_index counts) class (utility_of u) (utility_of u') (slice_index lambda) (slice_index lambda') x same_above is));
          multiplier_is = (multipliers.set t a e).0;
        }
      ]

      pub class_fits : FitsUtility x → FitAbove n counts u' lambda' (class - 1)
      class_fits fits t a l = elim (cases_eq (slice_index counts t) class) [
        | inr d ↦
            let h = fit t a (omega arith) in
            let e = same_above t a (omega arith) in
            (subst FitsUtility e.0 h.0, subst FitsMultiplier e.1 h.1)
        | inl e ↦ (subst FitsUtility (sym (set.set t a e)) fits, (multipliers.set t a e).1)
      ]

  -- ---- a class that passes its width

  module _ (weak : ℕ → ℕ → Type 0) (weak_is : ComparesWeakly weak cost own) (counted : AreCounts n weak counts) (x : ℤ) (is : IsClassUtilityBy n cost own (slice_index counts) (utility_of u) (slice_index lambda) class x) (v : ℕ → ℤ) (k : ℕ → ℕ) (are : AreStandardBy n weak cost own (slice_index counts) v k) where
    agree : AgreeAbove n (slice_index counts) class (utility_of u) (slice_index lambda) v k
    agree = standard_above_agree n cost own (slice_index counts) n class (utility_of u) v (slice_index lambda) k
        (λ s a. count_is_within n weak cost own weak_is s (slice_index counts s) a (counted.each s a)) filled (λ t a l. are.each t a)

    standard_utility : (t : ℕ) → t < n → slice_index counts t ≡ class → x ≡ v t
    standard_utility t a e =
        class_utility_is_one n cost own (slice_index counts) class v k x (v t)
        (class_utility_same n cost own (slice_index counts) class (utility_of u) v (slice_index lambda) k x agree is)
        (subst (λ z. IsClassUtilityBy n cost own (slice_index counts) v k z (v t)) e (are.each t a).utility_is)

    fit_above : (s : ℕ) → s < n → class < slice_index counts s → FitsUtility (v s) × FitsMultiplier (k s)
    fit_above s a l =
        let h = fit s a l in
        let e = agree s a l in
        (subst FitsUtility e.0 h.0, subst FitsMultiplier e.1 h.1)

    pub stops_at_utility : (first : ℕ) → first < n → slice_index counts first ≡ class → ((s : ℕ) → s < first → ¬ (slice_index counts s ≡ class)) → ¬ FitsUtility x → PassWidthFirstAt n (slice_index counts) v k first
    stops_at_utility first a e none wide = record {
      observed = a;
      higher_fit = λ s b l. fit_above s b (omega (arith, e));
      passes = inl (λ h. wide (subst FitsUtility (sym (standard_utility first a e)) h), λ s l f. none s l (f ∙ e));
    }

    module _ (u' : List ℤ) (set : IsClassSet n counts class x u u') where
      same_utility : (t : ℕ) → t < n → class ≤ slice_index counts t → utility_of u' t ≡ v t
      same_utility t a l = elim (cases_eq (slice_index counts t) class) [
        | inl e ↦ set.set t a e ∙ standard_utility t a e
        | inr d ↦ set.kept t a d ∙ (agree t a (omega arith)).0
      ]

      standard_multiplier : (s j : ℕ) → s < n → slice_index counts s ≡ class → IsMultiplierBy n cost own (slice_index counts) (utility_of u') s j → j ≡ k s
      standard_multiplier s j a e m =
          multiplier_is_one n cost own (slice_index counts) s j (k s) v
          (multiplier_same n cost own (slice_index counts) s j (utility_of u') v (same_utility s a (omega (arith, e))) (λ t b l. same_utility t b (omega (arith, e, l))) m)
          (are.each s a).multiplier_is

      pub stops_at_multiplier : (lambda' : List ℕ) (at : ℕ) → FitsUtility x → IsTooSteep n cost own counts class u' at → AreMultipliersSet at n cost own counts class u' lambda lambda' → PassWidthFirstAt n (slice_index counts) v k at
      stops_at_multiplier lambda' at fits steep multipliers = record {
        observed = steep.0;
        higher_fit = λ s b l. fit_above s b (omega (arith, steep.1));
        passes = inr (
          subst FitsUtility (standard_utility at steep.0 steep.1) fits,
          λ h. steep.2.2 (subst FitsMultiplier (sym (standard_multiplier at steep.2.0 steep.0 steep.1 steep.2.1)) h),
          λ s l e.
              let in_class : slice_index counts s ≡ class = e ∙ steep.1 in
              let m = multipliers.set s l in_class in
              subst FitsMultiplier (standard_multiplier s (slice_index lambda' s) (omega (arith, l, steep.0)) in_class m.0) m.1,
        );
      }

-- ---- all classes

module _ (n : ℕ) (weak : ℕ → ℕ → Type 0) (cost : ℕ → ℕ → ℕ) (own : ℕ → ℕ) (weak_is : ComparesWeakly weak cost own) (counts : List ℕ) (counted : AreCounts n weak counts) where
  -- no class is above n
  pub none_above : (t : ℕ) → t < n → ¬ (n - 0 < slice_index counts t)
  none_above t a l = omega (arith, count_is_within n weak cost own weak_is t (slice_index counts t) a (counted.each t a))

  -- every class is above 0
  pub standard_numbers : (u : List ℤ) (lambda : List ℕ) → AreFilledAbove n cost own counts u lambda 0 → AreStandardBy n weak cost own (slice_index counts) (utility_of u) (slice_index lambda)
  standard_numbers u lambda filled = record {
    counts = counted.each;
    each = λ t a. filled t a (count_is_some n weak t (slice_index counts t) a (counted.each t a));
  }

  pub all_fit : (u : List ℤ) (lambda : List ℕ) → FitAbove n counts u lambda 0 → (s : ℕ) → s < n → FitsUtility (utility_of u s) × FitsMultiplier (slice_index lambda s)
  all_fit u lambda fit s a = fit s a (count_is_some n weak s (slice_index counts s) a (counted.each s a))

  pub pass_at : (t : ℕ) → StandardNumbersPassAt n weak cost own counts t → (count : ℕ → ℕ) × (utility : ℕ → ℤ) × (multiplier : ℕ → ℕ) × AreStandardBy n weak cost own count utility multiplier × PassWidthFirstAt n count utility multiplier t
  pass_at t pass =
      let r = standard_exists_for n weak cost own weak_is (slice_index counts) counted.each in
      (slice_index counts, r.0, r.1, r.2, pass r.0 r.1 r.2)
