-- The preference of a monotone utility is a preference, which treats bundles that are equal in value alike; that of a
-- homogeneous one is homothetic.
use borrow.Author.Differences.{up, down}
use Rattle.std.proofs.Common.{◌≡◌, ℕ, ◌+◌, ◌*◌, ◌<◌, ◌≤◌, ◌⊎◌, ◌↔◌, inl, inr, sym, arith}
use Rattle.std.proofs.lemmas.Int.{by_lt_z, ints}
use Rattle.std.proofs.Math.Nat.{le_of_mul-le-mul_left, mul-le-mul_left, mul-pos}
use Rattle.std.specs.Prelude.{Bool, ℤ, pos, ◌*ℤ◌, ◌<ℤ◌, ◌≤ℤ◌, int_le}
use Rattle.rp_evidence.specs.Demand.{FractionBundle}
use Rattle.rp_people.specs.Bundles.{HasMoreOfSomeGood, IsBundle, multiple}
use Rattle.rp_people.specs.Choices.{Choices}
use Rattle.rp_people.specs.Fractions.{SignedFraction}
use Rattle.rp_people.specs.Preferences.{IsBetter, IsHomotheticPreference, IsNonsatiatedPreference, IsPreference, TreatsAlikeByValue, shown_by}
use Rattle.rp_people.specs.Rationalizing.{Fits, HasConcaveUtility, HasHomotheticPreference, HasNonsatiatedPreference, HasPreference, Rationalizes}
use Rattle.rp_people.specs.Utilities.{IsConcaveUtility, IsHomogeneous, IsMonotone, IsStrictlyMonotone, IsUtilityOfBundles, preference_of}
use Rattle.rp_people.proofs.Rooms.{preference_is_nonsatiated}
use Rattle.rp_people.proofs.Differences.{at_most_by, at_most_parts, at_most_test, below_not_at_most, by_itself, is_times, test_at_most, times_is}

-- a/b at most c/d, and c/d at most e/f
at_most_through : (a c e : ℤ) (b d f : ℕ) → 0 < d → (a *ℤ pos d) ≤ℤ (c *ℤ pos b) → (c *ℤ pos f) ≤ℤ (e *ℤ pos d) → (a *ℤ pos f) ≤ℤ (e *ℤ pos b)
at_most_through a c e b d f some h k =
    let p = at_most_parts (a *ℤ pos d) (c *ℤ pos b) (up a * d) (down a * d) (up c * b) (down c * b) (is_times a d (up a) (down a) (by_itself a)) (is_times c b (up c) (down c) (by_itself c)) h in
    let q = at_most_parts (c *ℤ pos f) (e *ℤ pos d) (up c * f) (down c * f) (up e * d) (down e * d) (is_times c f (up c) (down c) (by_itself c)) (is_times e d (up e) (down e) (by_itself e)) k in
    let fp : f * (up a * d + down c * b) ≤ f * (up c * b + down a * d) = mul-le-mul_left f p in
    let bq : b * (up c * f + down e * d) ≤ b * (up e * d + down c * f) = mul-le-mul_left b q in
    at_most_by (a *ℤ pos f) (e *ℤ pos b) (up a * f) (down a * f) (up e * b) (down e * b) (is_times a f (up a) (down a) (by_itself a)) (is_times e b (up e) (down e) (by_itself e))
    (le_of_mul-le-mul_left {k = d} (omega arith) some)

either_at_most : (x y : ℤ) → (x ≤ℤ y) ⊎ (y ≤ℤ x)
either_at_most x y = by_lt_z {P = (x ≤ℤ y) ⊎ (y ≤ℤ x)} x y (λ l. inl (weaker x y l)) (λ l. inr l)
  where
    weaker : (x y : ℤ) → x <ℤ y → x ≤ℤ y
    weaker x y l = omega (arith, ints)

below_at_most : (x y : ℤ) → x <ℤ y → x ≤ℤ y
below_at_most x y l = omega (arith, ints)

same_at_most : (x y : ℤ) → x ≡ y → x ≤ℤ y
same_at_most x y e = omega (arith, ints)

-- ---- two relations that say the same, such as one and what a test of it shows

module _ (P Q : FractionBundle → FractionBundle → Type 0) (same : (x y : FractionBundle) → P x y ↔ Q x y) where
  better_same : (x y : FractionBundle) → IsBetter P x y → IsBetter Q x y
  better_same x y is = ((same x y).0 is.0, λ back. is.1 ((same y x).1 back))

  pub preference_same : (goods : ℕ) → IsPreference goods P → IsPreference goods Q
  preference_same goods is = record {
    complete = λ x y ix iy. elim (is.complete x y ix iy) [ inl h ↦ inl ((same x y).0 h) | inr h ↦ inr ((same y x).0 h) ];
    transitive = λ x y z ix iy iz h k. (same x z).0 (is.transitive x y z ix iy iz ((same x y).1 h) ((same y z).1 k));
    by_value = λ x y ix iy e. (same x y).0 (is.by_value x y ix iy e);
    monotone = λ x y ix iy more. better_same x y (is.monotone x y ix iy more);
  }

  pub homothetic_same : IsHomotheticPreference P → IsHomotheticPreference Q
  homothetic_same is num den x y some_num some_den ix iy h =
      (same (multiple num den x) (multiple num den y)).0 (is num den x y some_num some_den ix iy ((same x y).1 h))

  pub rationalizes_same : (choices : Choices) → Rationalizes choices P → Rationalizes choices Q
  rationalizes_same choices is s l x ix affordable = (same (choices.bundle s) x).0 (is s l x ix affordable)

-- ---- the preference of a utility is shown by a test that needs no evidence

abbrev pub passes_for : (FractionBundle → SignedFraction) → FractionBundle → FractionBundle → (ℕ → ℕ) → Bool
passes_for utility x y evidence = int_le ((utility y).num *ℤ pos (utility x).den) ((utility x).num *ℤ pos (utility y).den)

pub shows : (utility : FractionBundle → SignedFraction) (x y : FractionBundle) → preference_of utility x y ↔ shown_by (passes_for utility) x y
shows utility x y = (
  λ l. (λ k. 0, at_most_test ((utility y).num *ℤ pos (utility x).den) ((utility x).num *ℤ pos (utility y).den) l),
  λ h. test_at_most ((utility y).num *ℤ pos (utility x).den) ((utility x).num *ℤ pos (utility y).den) h.1,
)

module _ (goods : ℕ) (utility : FractionBundle → SignedFraction) (of_bundles : IsUtilityOfBundles goods utility) where
  pub alike_by_value : TreatsAlikeByValue goods (preference_of utility)
  alike_by_value x y ix iy same = same_at_most _ _ (sym (of_bundles.by_value x y ix iy same))

  pub preference_is : IsMonotone goods utility → IsPreference goods (preference_of utility)
  preference_is monotone = record {
    complete = λ x y ix iy. elim (either_at_most ((utility y).num *ℤ pos (utility x).den) ((utility x).num *ℤ pos (utility y).den)) [
      | inl l ↦ inl l
      | inr l ↦ inr l
    ];
    transitive = λ x y z ix iy iz h k.
        at_most_through (utility z).num (utility y).num (utility x).num (utility z).den (utility y).den (utility x).den (of_bundles.fraction y iy) k h;
    by_value = alike_by_value;
    monotone = λ x y ix iy more.
        let l = monotone x y ix iy more in
        (below_at_most _ _ l, λ back. below_not_at_most _ _ l back);
  }

  pub strict_is_better : IsStrictlyMonotone goods utility → (x y : FractionBundle) → IsBundle x → IsBundle y → HasMoreOfSomeGood goods x y → IsBetter (preference_of utility) x y
  strict_is_better strictly x y ix iy more =
      let l = strictly x y ix iy more in
      (below_at_most _ _ l, λ back. below_not_at_most _ _ l back)

  pub homothetic_is : IsHomogeneous utility → IsHomotheticPreference (preference_of utility)
  homothetic_is homogeneous num den x y some_num some_den ix iy h =
      let ux = of_bundles.fraction x ix in
      let uy = of_bundles.fraction y iy in
      let imx : IsBundle (multiple num den x) = mul-pos some_den ix in
      let imy : IsBundle (multiple num den y) = mul-pos some_den iy in
      let ey = homogeneous num den y some_num some_den iy in
      let ex = homogeneous num den x some_num some_den ix in
      let middle = scaled num den (utility y).num (utility x).num (utility y).den (utility x).den h in
      let first = at_most_through (utility (multiple num den y)).num (pos num *ℤ (utility y).num) (pos num *ℤ (utility x).num) (utility (multiple num den y)).den (den * (utility y).den) (den * (utility x).den) (mul-pos some_den uy) (same_at_most _ _ ey) middle in
      let last = at_most_through (utility (multiple num den y)).num (pos num *ℤ (utility x).num) (utility (multiple num den x)).num (utility (multiple num den y)).den (den * (utility x).den) (utility (multiple num den x)).den (mul-pos some_den ux) first (same_at_most _ _ (sym ex)) in
      last
    where
      scaled : (n d : ℕ) (v w : ℤ) (e f : ℕ) → (v *ℤ pos f) ≤ℤ (w *ℤ pos e) → ((pos n *ℤ v) *ℤ pos (d * f)) ≤ℤ ((pos n *ℤ w) *ℤ pos (d * e))
      scaled n d v w e f h =
          let p = at_most_parts (v *ℤ pos f) (w *ℤ pos e) (up v * f) (down v * f) (up w * e) (down w * e) (is_times v f (up v) (down v) (by_itself v)) (is_times w e (up w) (down w) (by_itself w)) h in
          let q : (n * d) * (up v * f + down w * e) ≤ (n * d) * (up w * e + down v * f) = mul-le-mul_left (n * d) p in
          at_most_by ((pos n *ℤ v) *ℤ pos (d * f)) ((pos n *ℤ w) *ℤ pos (d * e)) ((n * up v) * (d * f)) ((n * down v) * (d * f)) ((n * up w) * (d * e)) ((n * down w) * (d * e))
          (is_times (pos n *ℤ v) (d * f) (n * up v) (n * down v) (times_is n v (up v) (down v) (by_itself v)))
          (is_times (pos n *ℤ w) (d * e) (n * up w) (n * down w) (times_is n w (up w) (down w) (by_itself w))) (omega arith)

shown_is_preference : (goods : ℕ) (utility : FractionBundle → SignedFraction) → IsUtilityOfBundles goods utility → IsMonotone goods utility → IsPreference goods (shown_by (passes_for utility))
shown_is_preference goods utility of_bundles monotone =
    preference_same (preference_of utility) (shown_by (passes_for utility)) (shows utility) goods (preference_is goods utility of_bundles monotone)

shown_rationalizes : (choices : Choices) (utility : FractionBundle → SignedFraction) → Rationalizes choices (preference_of utility) → Rationalizes choices (shown_by (passes_for utility))
shown_rationalizes choices utility rationalizes =
    rationalizes_same (preference_of utility) (shown_by (passes_for utility)) (shows utility) choices rationalizes

pub preference_of_monotone : (choices : Choices) (utility : FractionBundle → SignedFraction) → IsUtilityOfBundles choices.goods utility → IsMonotone choices.goods utility → Rationalizes choices (preference_of utility)
    → HasPreference choices
preference_of_monotone choices utility of_bundles monotone rationalizes = record {
  passes = passes_for utility;
  preference = shown_is_preference choices.goods utility of_bundles monotone;
  rationalizes = shown_rationalizes choices utility rationalizes;
}

pub preference_of_concave : (choices : Choices) → HasConcaveUtility choices → HasPreference choices
preference_of_concave choices has =
    preference_of_monotone choices has.utility has.concave_utility.utility_of_bundles has.concave_utility.monotone has.rationalizes

pub nonsatiated_utility : (goods : ℕ) (utility : FractionBundle → SignedFraction) → IsConcaveUtility goods utility → IsNonsatiatedPreference goods (preference_of utility)
nonsatiated_utility goods utility is =
    preference_is_nonsatiated goods (preference_of utility) (preference_is goods utility is.utility_of_bundles is.monotone)

pub preference_fits : (choices : Choices) (prefers : FractionBundle → FractionBundle → Type 0) → IsPreference choices.goods prefers → Rationalizes choices prefers → Fits choices prefers
preference_fits choices prefers is rationalizes = record { preference = preference_is_nonsatiated choices.goods prefers is; rationalizes = rationalizes }

pub shown_fits : (choices : Choices) (utility : FractionBundle → SignedFraction) → IsConcaveUtility choices.goods utility → Rationalizes choices (preference_of utility) → Fits choices (shown_by (passes_for utility))
shown_fits choices utility is rationalizes =
    preference_fits choices (shown_by (passes_for utility)) (shown_is_preference choices.goods utility is.utility_of_bundles is.monotone) (shown_rationalizes choices utility rationalizes)

pub nonsatiated_of_preference : (choices : Choices) → HasPreference choices → HasNonsatiatedPreference choices
nonsatiated_of_preference choices has = record { passes = has.passes; fits = preference_fits choices (shown_by has.passes) has.preference has.rationalizes }

pub preference_of_homogeneous : (choices : Choices) (utility : FractionBundle → SignedFraction) → IsUtilityOfBundles choices.goods utility → IsMonotone choices.goods utility → IsHomogeneous utility → Rationalizes choices (preference_of utility)
    → HasHomotheticPreference choices
preference_of_homogeneous choices utility of_bundles monotone homogeneous rationalizes =
    record {
      passes = passes_for utility;
      preference = shown_is_preference choices.goods utility of_bundles monotone;
      homothetic = homothetic_same (preference_of utility) (shown_by (passes_for utility)) (shows utility) (homothetic_is choices.goods utility of_bundles homogeneous);
      rationalizes = shown_rationalizes choices utility rationalizes;
    }
