-- Where a homothetic preference rationalizes, every closed walk meets the homothetic test. Along a walk each bundle is at
-- least as good as a multiple of the next that it affords, and multiples keep the order. On a walk that falls, the last
-- step leaves room for a better one, however it is written: then a bundle would be better than itself.
use Rattle.std.proofs.Common.{◌≡◌, ℕ, ◌*◌, ◌<◌, ◌≤◌, inl, inr, List, [], ◌∷◌, ap, sym, subst, arith}
use Rattle.std.proofs.lemmas.Bool.{cases_lt}
use Rattle.std.proofs.Math.Nat.{le_of_mul-le-mul_left, mul-pos}
use Rattle.rp_evidence.specs.Demand.{FractionBundle}
use Rattle.rp_evidence.specs.Homothetic.{MeetsHomotheticTest, product_from}
use Rattle.rp_evidence.specs.Input.{TableInput}
use Rattle.rp_evidence.specs.Walk.{AnyStep, LeadsTo}
use Rattle.rp_evidence.specs.WelfareModels.{bundle_at}
use Rattle.rp_evidence.proofs.Walks.{starts_below}
use Rattle.rp_people.specs.Bundles.{AreEqualInValue, CostsAtMost, CostsLess, IsBundle, multiple}
use Rattle.rp_people.specs.Preferences.{IsAtLeastAsGood, IsBetter, IsHomotheticPreference, IsNonsatiatedByValue, IsTransitive}
use Rattle.rp_people.specs.Rationalizing.{Rationalizes}
use Rattle.rp_people.specs.TableChoices.{IsFullInput, choices_at}
use Rattle.rp_people.proofs.Affine.{spending_multiple}
use Rattle.rp_people.proofs.Rooms.{enough_parts, near_costs, some_parts}

-- num/den times den/num times a bundle is the bundle, by value
back_and_forth : (goods num den : ℕ) (x z : FractionBundle) → 1 ≤ num → 1 ≤ den → AreEqualInValue goods z (multiple num den (multiple den num x)) → AreEqualInValue goods z x
back_and_forth goods num den x z some_num some_den same g l =
    let e = same g l in
    same_parts (num * den) (z.num g * x.den) (x.num g * z.den) (mul-pos some_num some_den) (omega arith)
  where
    same_parts : (k a b : ℕ) → 0 < k → k * a ≡ k * b → a ≡ b
    same_parts k a b some e =
        let le : a ≤ b = le_of_mul-le-mul_left {k = k} (omega arith) some in
        let ge : b ≤ a = le_of_mul-le-mul_left {k = k} (omega arith) some in
        omega arith

module _ (input : TableInput) (full : IsFullInput input) (prefers : FractionBundle → FractionBundle → Type 0) (transitive : IsTransitive prefers) (nonsatiated : IsNonsatiatedByValue input.goods prefers) (homothetic : IsHomotheticPreference prefers)
    (rationalizes : Rationalizes (choices_at input 1 1) prefers) where
  -- the bundle of s is at least as good as one of which num/den times are better than the bundle of t, however written
  record IsAbove (s t num den : ℕ) : Type 0 where
    worse : FractionBundle
    bundle : IsBundle worse
    at_least : IsAtLeastAsGood prefers (bundle_at input s) worse
    better : (z : FractionBundle) → IsBundle z → AreEqualInValue input.goods z (multiple num den worse) → IsBetter prefers z (bundle_at input t)

  whole : (s : ℕ) → IsBundle (bundle_at input s)
  whole s = omega arith

  -- by one step, where den c(s,t) is less than num c(s,s)
  above_by_step : (s t num den : ℕ) → s < input.n → t < input.n → 1 ≤ num → 1 ≤ den → den * input.cost s t < num * input.cost s s → IsAbove s t num den
  above_by_step s t num den a b some_num some_den less =
      let x = bundle_at input t in
      let f = ap (λ v. den * v) (input.sums s t a b) in
      let cheap : CostsLess input.goods (input.price s) x (num * input.cost s s) den = omega arith in
      let parts = enough_parts input.goods (input.price s) x den in
      let r = nonsatiated x 1 parts (whole t) (omega arith) (some_parts input.goods (input.price s) x den) in
      let costs = near_costs input.goods (input.price s) x r.0 (num * input.cost s s) den (whole t) cheap r.2 in
      let part = multiple den num r.0 in
      let is : IsBundle part = mul-pos some_num r.1 in
      let e = spending_multiple input.goods (input.price s) den num r.0 in
      let affordable : CostsAtMost input.goods (input.price s) part (1 * input.cost s s) 1 = omega arith in
      record {
        worse = part;
        bundle = is;
        at_least = rationalizes s a part is affordable;
        better = λ z iz same. r.3 z iz (back_and_forth input.goods num den r.0 z some_num some_den same);
      }

  -- by one step more, to r
  above_by_more : (s r t num den : ℕ) → s < input.n → r < input.n → IsAbove r t (input.cost s s * num) (input.cost s r * den) → IsAbove s t num den
  above_by_more s r t num den a b is =
      let part = multiple (input.cost s s) (input.cost s r) (bundle_at input r) in
      let below = multiple (input.cost s s) (input.cost s r) is.worse in
      let part_is : IsBundle part = mul-pos (full.positive_costs s r a b) (whole r) in
      let below_is : IsBundle below = mul-pos (full.positive_costs s r a b) is.bundle in
      let e = spending_multiple input.goods (input.price s) (input.cost s s) (input.cost s r) (bundle_at input r) in
      let f = ap (λ v. input.cost s s * v) (input.sums s r a b) in
      let affordable : CostsAtMost input.goods (input.price s) part (1 * input.cost s s) 1 = omega arith in
      record {
        worse = below;
        bundle = below_is;
        at_least =
            transitive (bundle_at input s) part below (whole s) part_is below_is
            (rationalizes s a part part_is affordable)
            (homothetic (input.cost s s) (input.cost s r) (bundle_at input r) is.worse (full.positive_costs s s a a) (full.positive_costs s r a b) (whole r) is.bundle is.at_least);
        better = λ z iz same. is.better z iz (λ g l. let m = same g l in omega arith);
      }

  above : (s t x num den : ℕ) (w : List ℕ) → LeadsTo input.n AnyStep s t (x ∷ w) → 1 ≤ num → 1 ≤ den → den * product_from input.cost s (x ∷ w) < num * product_from (λ i j. input.cost i i) s (x ∷ w) → IsAbove s t num den
  above s t x num den [] h some_num some_den less =
      subst (λ z. IsAbove s z num den) h.2.1 (above_by_step s x num den h.0 h.2.0 some_num some_den (omega arith))
  above s t x num den (y ∷ w) h some_num some_den less =
      let b = starts_below input.n AnyStep x t (y ∷ w) h.2 in
      above_by_more s x t num den h.0 b
      (above x t y (input.cost s s * num) (input.cost s x * den) w h.2 (mul-pos (full.positive_costs s s h.0 h.0) some_num) (mul-pos (full.positive_costs s x h.0 b) some_den) (omega arith))

  not_above_itself : (s : ℕ) → ¬ IsAbove s s 1 1
  not_above_itself s is =
      (is.better is.worse is.bundle (λ g l. omega arith)).1 is.at_least

  pub meets_test : MeetsHomotheticTest input.n input.cost
  meets_test [] closed = absurd closed.1
  meets_test (x ∷ []) closed = absurd (omega (arith, closed.2))
  meets_test (x ∷ y ∷ w) closed =
      elim (cases_lt (product_from input.cost x (y ∷ w)) (product_from (λ i j. input.cost i i) x (y ∷ w))) [
        | inr l ↦ l
        | inl l ↦ absurd (not_above_itself x (above x x y 1 1 w (subst (λ z. LeadsTo input.n AnyStep x z (y ∷ w)) (sym closed.1.0) closed.1.1) (omega arith) (omega arith) (omega arith)))
      ]
