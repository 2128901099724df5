-- The least of values that are affine in the bundle is a monotone and concave utility, and a homogeneous one where the
-- values are.
use Rattle.std.proofs.Common.{◌≡◌, ℕ, zero, suc, ◌+◌, ◌*◌, ◌<◌, ◌≤◌, inl, inr, ap, refl, sym, subst, ◌∙◌, arith}
use Rattle.std.proofs.Math.Nat.{mul-pos}
use Rattle.std.proofs.lemmas.Bool.{cases_eq}
use Rattle.std.proofs.lemmas.Int.{by_lt_z, ints}
use Rattle.std.specs.Prelude.{ℤ, pos, ◌+ℤ◌, ◌*ℤ◌, ◌<ℤ◌, ◌≤ℤ◌}
use Rattle.rp_evidence.specs.Demand.{FractionBundle}
use Rattle.rp_people.specs.Bundles.{AreEqualInValue, IsBundle, mixture, multiple}
use Rattle.rp_people.specs.Fractions.{SignedFraction}
use Rattle.rp_people.specs.Utilities.{IsConcave, IsConcaveUtility, IsHomogeneous, IsMonotone, IsStrictlyMonotone, IsUtilityOfBundles}
use Rattle.rp_people.proofs.Affine.{IsAffine, by_value, mixed_by_mixtures, more_is_more, more_of_some_is_more, multiplied}
use Rattle.rp_people.proofs.Differences.{at_most_below, at_most_itself, at_most_on, at_most_sum, at_most_times, both_at_most, times_at_most}

-- ---- the least of n numbers

pub record IsLeast (n : ℕ) (f : ℕ → ℤ) (value : ℤ) : Type 0 where
  pub reached : (s : ℕ) × (s < n) × (value ≡ f s)
  pub least : (s : ℕ) → s < n → value ≤ℤ f s

least_alone : (f : ℕ → ℤ) → IsLeast 1 f (f 0)
least_alone f = record {
  reached = (0, omega arith, refl);
  least = λ s l. let e : 0 ≡ s = omega arith in subst (λ t. f 0 ≤ℤ f t) e (at_most_itself (f 0));
}

least_more : (k : ℕ) (f : ℕ → ℤ) (value : ℤ) → IsLeast k f value → (f k <ℤ value → IsLeast (suc k) f (f k)) × (value ≤ℤ f k → IsLeast (suc k) f value)
least_more k f value is = (
  λ below. record {
    reached = (k, omega arith, refl);
    least = λ s l. elim (cases_eq s k) [
      | inl e ↦ subst (λ t. f k ≤ℤ f t) (sym e) (at_most_itself (f k))
      | inr d ↦ at_most_on (f k) value (f s) (less_at_most (f k) value below) (is.least s (omega arith))
    ];
  },
  λ most. record {
    reached = (is.reached.0, omega (arith, is.reached.1), is.reached.2);
    least = λ s l. elim (cases_eq s k) [
      | inl e ↦ subst (λ t. value ≤ℤ f t) (sym e) most
      | inr d ↦ is.least s (omega arith)
    ];
  },
)
  where
    less_at_most : (x y : ℤ) → x <ℤ y → x ≤ℤ y
    less_at_most x y l = omega (arith, ints)

pub least_of : (n : ℕ) (f : ℕ → ℤ) → 1 ≤ n → (value : ℤ) × IsLeast n f value
least_of zero f some = absurd (omega arith)
least_of (suc zero) f some = (f 0, least_alone f)
least_of (suc (suc k)) f some =
    let before = least_of (suc k) f (omega arith) in
    by_lt_z {P = (value : ℤ) × IsLeast (suc (suc k)) f value} (f (suc k)) before.0
    (λ l. (f (suc k), (least_more (suc k) f before.0 before.1).0 l))
    (λ l. (before.0, (least_more (suc k) f before.0 before.1).1 l))

-- ---- the utility that is the least of n values

pub record IsLeastOf (n : ℕ) (values : ℕ → FractionBundle → ℤ) (utility : FractionBundle → SignedFraction) : Type 0 where
  pub over : (x : FractionBundle) → IsBundle x → (utility x).den ≡ x.den
  pub least : (x : FractionBundle) → IsBundle x → IsLeast n (λ s. values s x) (utility x).num

pub least_utility : (n : ℕ) (values : ℕ → FractionBundle → ℤ) → 1 ≤ n → (utility : FractionBundle → SignedFraction) × IsLeastOf n values utility
least_utility n values some = (
  λ x. record { num = (least_of n (λ s. values s x) some).0; den = x.den },
  record { over = λ x is. refl; least = λ x is. (least_of n (λ s. values s x) some).1 },
)

module _ (n goods : ℕ) (price : ℕ → ℕ → ℕ) (a b c : ℕ → ℕ) (values : ℕ → FractionBundle → ℤ) (affine : (s : ℕ) → s < n → IsAffine goods (price s) (a s) (b s) (c s) (values s))
    (utility : FractionBundle → SignedFraction) (is : IsLeastOf n values utility) where
  -- over another denominator, the utility is at most each value
  at_most_over : (s : ℕ) → s < n → (x : FractionBundle) → IsBundle x → (d : ℕ) → ((utility x).num *ℤ pos d) ≤ℤ (values s x *ℤ pos d)
  at_most_over s l x ix d = at_most_times (utility x).num (values s x) d ((is.least x ix).least s l)

  not_above_equal : (x y : FractionBundle) → IsBundle x → IsBundle y → AreEqualInValue goods x y → ((utility x).num *ℤ pos (utility y).den) ≤ℤ ((utility y).num *ℤ pos (utility x).den)
  not_above_equal x y ix iy same =
      let r = (is.least y iy).reached in
      let e : values r.0 x *ℤ pos y.den ≡ (utility y).num *ℤ pos x.den = by_value goods (price r.0) (a r.0) (b r.0) (c r.0) (values r.0) (affine r.0 r.1) x y same ∙ ap (λ v. v *ℤ pos x.den) (sym r.2) in
      let l : ((utility x).num *ℤ pos y.den) ≤ℤ ((utility y).num *ℤ pos x.den) = subst (λ v. ((utility x).num *ℤ pos y.den) ≤ℤ v) e (at_most_over r.0 r.1 x ix y.den) in
      subst (λ d. ((utility x).num *ℤ pos d) ≤ℤ ((utility y).num *ℤ pos (utility x).den)) (sym (is.over y iy))
      (subst (λ d. ((utility x).num *ℤ pos y.den) ≤ℤ ((utility y).num *ℤ pos d)) (sym (is.over x ix)) l)

  pub of_bundles : IsUtilityOfBundles goods utility
  of_bundles = record {
    fraction = λ x ix. subst (λ d. 0 < d) (sym (is.over x ix)) ix;
    by_value = λ x y ix iy same.
        both_at_most ((utility x).num *ℤ pos (utility y).den) ((utility y).num *ℤ pos (utility x).den)
        (not_above_equal x y ix iy same) (not_above_equal y x iy ix (λ g l. sym (same g l)));
  }

  -- where each value is below
  below_where : (x y : FractionBundle) → IsBundle x → IsBundle y → ((s : ℕ) → s < n → (values s y *ℤ pos x.den) <ℤ (values s x *ℤ pos y.den)) → ((utility y).num *ℤ pos (utility x).den) <ℤ ((utility x).num *ℤ pos (utility y).den)
  below_where x y ix iy each =
      let r = (is.least x ix).reached in
      let f = each r.0 r.1 in
      let l = at_most_below ((utility y).num *ℤ pos x.den) (values r.0 y *ℤ pos x.den) (values r.0 x *ℤ pos y.den) (at_most_over r.0 r.1 y iy x.den) f in
      let m : ((utility y).num *ℤ pos x.den) <ℤ ((utility x).num *ℤ pos y.den) = subst (λ v. ((utility y).num *ℤ pos x.den) <ℤ (v *ℤ pos y.den)) (sym r.2) l in
      subst (λ d. ((utility y).num *ℤ pos d) <ℤ ((utility x).num *ℤ pos (utility y).den)) (sym (is.over x ix))
      (subst (λ d. ((utility y).num *ℤ pos x.den) <ℤ ((utility x).num *ℤ pos d)) (sym (is.over y iy)) m)

  pub monotone : 1 ≤ goods → ((s g : ℕ) → s < n → g < goods → 1 ≤ price s g) → IsMonotone goods utility
  monotone some positive x y ix iy more =
      below_where x y ix iy (λ s l. more_is_more goods (price s) (a s) (b s) (c s) (values s) (affine s l) x y some (λ g k. positive s g l k) more)

  pub strictly_monotone : ((s g : ℕ) → s < n → g < goods → 1 ≤ price s g) → IsStrictlyMonotone goods utility
  strictly_monotone positive x y ix iy more =
      below_where x y ix iy (λ s l. more_of_some_is_more goods (price s) (a s) (b s) (c s) (values s) (affine s l) x y (λ g k. positive s g l k) more)

  mixture_is : (p q : ℕ) (x y : FractionBundle) → 0 < p + q → IsBundle x → IsBundle y → IsBundle (mixture p q x y)
  mixture_is p q x y some ix iy = mul-pos some (mul-pos ix iy)

  mixed_at_most : (p q : ℕ) (x y : FractionBundle) → IsBundle x → IsBundle y → (z : ℤ)
      → IsLeast n (λ s. values s (mixture p q x y)) z → ((pos p *ℤ ((utility x).num *ℤ pos y.den)) +ℤ (pos q *ℤ ((utility y).num *ℤ pos x.den))) ≤ℤ z
  mixed_at_most p q x y ix iy z least =
      let r = least.reached in
      let e = mixed_by_mixtures goods (price r.0) (a r.0) (b r.0) (c r.0) (values r.0) (affine r.0 r.1) p q x y in
      let l = at_most_sum (pos p *ℤ ((utility x).num *ℤ pos y.den)) (pos p *ℤ (values r.0 x *ℤ pos y.den)) (pos q *ℤ ((utility y).num *ℤ pos x.den)) (pos q *ℤ (values r.0 y *ℤ pos x.den))
      (times_at_most p _ _ (at_most_over r.0 r.1 x ix y.den)) (times_at_most q _ _ (at_most_over r.0 r.1 y iy x.den)) in
      subst (λ v. ((pos p *ℤ ((utility x).num *ℤ pos y.den)) +ℤ (pos q *ℤ ((utility y).num *ℤ pos x.den))) ≤ℤ v) (e ∙ sym r.2) l

  pub concave : IsConcave utility
  concave p q x y some ix iy =
      let im = mixture_is p q x y some ix iy in
      let l = mixed_at_most p q x y ix iy (utility (mixture p q x y)).num (is.least (mixture p q x y) im) in
      let m = at_most_times _ _ ((p + q) * (x.den * y.den)) l in
      by_denominators (utility x).num (utility y).num (utility (mixture p q x y)).num (utility x).den (utility y).den (utility (mixture p q x y)).den (is.over x ix) (is.over y iy) (is.over (mixture p q x y) im) m
    where
      by_denominators : (u v w : ℤ) (d e f : ℕ) → d ≡ x.den → e ≡ y.den → f ≡ (p + q) * (x.den * y.den)
          → (((pos p *ℤ (u *ℤ pos y.den)) +ℤ (pos q *ℤ (v *ℤ pos x.den))) *ℤ pos ((p + q) * (x.den * y.den))) ≤ℤ (w *ℤ pos ((p + q) * (x.den * y.den)))
          → (((pos p *ℤ (u *ℤ pos e)) +ℤ (pos q *ℤ (v *ℤ pos d))) *ℤ pos f) ≤ℤ (w *ℤ pos ((p + q) * (d * e)))
      by_denominators u v w d e f dx ey fm l =
          subst (λ k. (((pos p *ℤ (u *ℤ pos e)) +ℤ (pos q *ℤ (v *ℤ pos d))) *ℤ pos k) ≤ℤ (w *ℤ pos ((p + q) * (d * e)))) (sym fm)
          (subst (λ k. (((pos p *ℤ (u *ℤ pos e)) +ℤ (pos q *ℤ (v *ℤ pos k))) *ℤ pos ((p + q) * (x.den * y.den))) ≤ℤ (w *ℤ pos ((p + q) * (k * e)))) (sym dx)
          (subst (λ k. (((pos p *ℤ (u *ℤ pos k)) +ℤ (pos q *ℤ (v *ℤ pos x.den))) *ℤ pos ((p + q) * (x.den * y.den))) ≤ℤ (w *ℤ pos ((p + q) * (x.den * k)))) (sym ey) l))

  pub concave_utility : 1 ≤ goods → ((s g : ℕ) → s < n → g < goods → 1 ≤ price s g) → IsConcaveUtility goods utility
  concave_utility some positive = record {
    utility_of_bundles = of_bundles;
    monotone = monotone some positive;
    strictly_monotone = strictly_monotone positive;
    concave = concave;
  }

  multiple_is : (num den : ℕ) (x : FractionBundle) → 1 ≤ den → IsBundle x → IsBundle (multiple num den x)
  multiple_is num den x some ix = mul-pos some ix

  pub homogeneous : ((s : ℕ) → s < n → a s ≡ c s) → IsHomogeneous utility
  homogeneous none num den x some_num some_den ix =
      let im = multiple_is num den x some_den ix in
      let r = (is.least x ix).reached in
      let q = (is.least (multiple num den x) im).reached in
      let up_to : (utility (multiple num den x)).num ≤ℤ (pos num *ℤ (utility x).num) =
      subst (λ v. (utility (multiple num den x)).num ≤ℤ v)
      (multiplied goods (price r.0) (a r.0) (b r.0) (c r.0) (values r.0) (affine r.0 r.1) (none r.0 r.1) num den x ∙ ap (λ v. pos num *ℤ v) (sym r.2))
      ((is.least (multiple num den x) im).least r.0 r.1) in
      let from : (pos num *ℤ (utility x).num) ≤ℤ (utility (multiple num den x)).num =
      subst (λ v. (pos num *ℤ (utility x).num) ≤ℤ v)
      (sym (multiplied goods (price q.0) (a q.0) (b q.0) (c q.0) (values q.0) (affine q.0 q.1) (none q.0 q.1) num den x) ∙ sym q.2)
      (times_at_most num _ _ ((is.least x ix).least q.0 q.1)) in
      let e = both_at_most _ _ up_to from in
      ap (λ v. v *ℤ pos (den * (utility x).den)) e
      ∙ ap (λ d. (pos num *ℤ (utility x).num) *ℤ pos d) (ap (λ d. den * d) (is.over x ix) ∙ sym (is.over (multiple num den x) im))
