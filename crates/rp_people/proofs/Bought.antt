-- A bundle on a new budget is a supporting demand exactly where it is bought: both are Afriat's theorem on the table with
-- one choice more.
use Rattle.std.proofs.Common.{◌≡◌, ℕ, ◌+◌, ◌*◌, ◌<◌, ◌≤◌, ◌⊎◌, ◌↔◌, inl, inr, ap, sym, subst, ◌∙◌, cond, ltb, arith}
use Rattle.std.proofs.Math.Nat.{le_of_mul-le-mul_left, lt_of_mul-lt-mul_left, mul-le-mul_left, mul-lt-mul_of_pos_left}
use Rattle.std.proofs.lemmas.Bool.{cases_lt, le-ltb, lt-ltb}
use Rattle.std.specs.Prelude.{if◌then◌else◌, nat_lt}
use Rattle.rp_evidence.specs.Demand.{BudgetInput, FractionBundle, IsInfimum, IsOnBudget, IsSupportingDemand, IsSupremum, enlarged, spending}
use Rattle.rp_evidence.specs.Garp.{MeetsGarp}
use Rattle.rp_evidence.specs.Input.{TableInput}
use Rattle.rp_evidence.specs.Preference.{IsStrict, IsWeak}
use Rattle.rp_evidence.specs.WelfareModels.{bundle_at}
use Rattle.rp_evidence.proofs.DemandLaws.{is_enlarged}
use Rattle.rp_evidence.proofs.SameCosts.{no_violation_same}
use Rattle.rp_people.specs.Bundles.{CostsAtMost, IsBundle}
use Rattle.rp_people.specs.Choices.{AreChoices, Choices, IsStrictChoice, IsWeakChoice, MeetAxiom}
use Rattle.rp_people.specs.Preferences.{IsAtLeastAsGood, shown_by}
use Rattle.rp_people.specs.Rationalizing.{IsBest}
use Rattle.rp_people.specs.TableChoices.{IsFullInput, choices_at}
use Rattle.rp_people.specs.Utilities.{preference_of}
use Rattle.rp_people.proofs.AfriatUtilities.{concave_utility_exists}
use Rattle.rp_people.proofs.Chains.{meets_axiom}
use Rattle.rp_people.proofs.Orders.{passes_for, shown_fits, shows}
use Rattle.rp_people.specs.BoughtBundles.{IsBought, IsBoughtBy, IsBoughtByUtility, IsInfimumBought, IsSupremumBought}

-- ---- the table with one choice more

abbrev widened : TableInput → BudgetInput → FractionBundle → Choices
widened input budget x = record {
  n = input.n + 1;
  goods = input.goods;
  price = λ s. if nat_lt s input.n then input.price s else budget.prices;
  bundle = λ s. if nat_lt s input.n then bundle_at input s else x;
  scale = 1;
  own = λ s. if nat_lt s input.n then 1 * input.cost s s else budget.expenditure;
}

-- u and v are the same multiple of a and of b
record AreAlike (u v a b : ℕ) : Type 0 where
  times : ℕ
  some : 0 < times
  first : u ≡ times * a
  second : v ≡ times * b

alike_weak : (u v a b : ℕ) → AreAlike u v a b → (1 * u ≤ 1 * v) ↔ (a ≤ b)
alike_weak u v a b is = (
  λ h. le_of_mul-le-mul_left {k = is.times} (omega (arith, is.first, is.second, h)) is.some,
  λ h. let k : is.times * a ≤ is.times * b = mul-le-mul_left is.times h in omega (arith, is.first, is.second, k),
)

alike_strict : (u v a b : ℕ) → AreAlike u v a b → (1 * u < 1 * v) ↔ (a < b)
alike_strict u v a b is = (
  λ h. lt_of_mul-lt-mul_left is.times (omega (arith, is.first, is.second, h)),
  λ h. let k : is.times * a < is.times * b = mul-lt-mul_of_pos_left h is.some in omega (arith, is.first, is.second, k),
)

module _ (input : TableInput) (budget : BudgetInput) (x : FractionBundle) where
  old : {A : Type 0} (a b : A) (s : ℕ) → s < input.n → cond (ltb s input.n) a b ≡ a
  old a b s l = ap (λ z. cond z a b) (lt-ltb s input.n l)

  new : {A : Type 0} (a b : A) (s : ℕ) → input.n ≤ s → cond (ltb s input.n) a b ≡ b
  new a b s l = ap (λ z. cond z a b) (le-ltb s input.n l)

  -- what a choice's bundle costs at the prices of another, and what it is compared with
  abbrev left : ℕ → ℕ → ℕ
  left s t = 1 * spending input.goods ((widened input budget x).price s) ((widened input budget x).bundle t).num

  abbrev right : ℕ → ℕ → ℕ
  right s t = (widened input budget x).own s * ((widened input budget x).bundle t).den

  left_is : (s t : ℕ) (p : ℕ → ℕ) (y : FractionBundle) → (widened input budget x).price s ≡ p → (widened input budget x).bundle t ≡ y → left s t ≡ 1 * spending input.goods p y.num
  left_is s t p y e f = λ i. 1 * spending input.goods (e i) (f i).num

  right_is : (s t o : ℕ) (y : FractionBundle) → (widened input budget x).own s ≡ o → (widened input budget x).bundle t ≡ y → right s t ≡ o * y.den
  right_is s t o y e f = λ i. e i * (f i).den

  abbrev wide : ℕ → ℕ → ℕ
  wide = enlarged input budget x

  module _ (on : IsOnBudget input budget x) where
    alike_old : (s t : ℕ) → s < input.n → t < input.n → AreAlike (wide s t) (wide s s) (left s t) (right s t)
    alike_old s t a b =
        let e = is_enlarged input budget x on.fraction in
        let l = left_is s t (input.price s) (bundle_at input t) (old (input.price s) budget.prices s a) (old (bundle_at input t) x t b) in
        let r = right_is s t (1 * input.cost s s) (bundle_at input t) (old (1 * input.cost s s) budget.expenditure s a) (old (bundle_at input t) x t b) in
        let c = input.sums s t a b in
        let u : left s t ≡ input.cost s t = omega (arith, l, c) in
        let v : right s t ≡ input.cost s s = omega (arith, r) in
        record { times = x.den; some = on.fraction; first = e.within s t a b ∙ ap (λ z. x.den * z) (sym u); second = e.within s s a a ∙ ap (λ z. x.den * z) (sym v) }

    alike_out : (s t : ℕ) → s < input.n → t ≡ input.n → AreAlike (wide s t) (wide s s) (left s t) (right s t)
    alike_out s t a same =
        let e = is_enlarged input budget x on.fraction in
        let l = left_is s t (input.price s) x (old (input.price s) budget.prices s a) (new (bundle_at input t) x t (omega arith)) in
        let r = right_is s t (1 * input.cost s s) x (old (1 * input.cost s s) budget.expenditure s a) (new (bundle_at input t) x t (omega arith)) in
        let w : wide s t ≡ spending input.goods (input.price s) x.num = subst (λ z. wide s z ≡ spending input.goods (input.price s) x.num) (sym same) (e.outward s a) in
        let o = e.within s s a a in
        record { times = 1; some = omega arith; first = omega (arith, w, l); second = omega (arith, o, r) }

    alike_in : (s t : ℕ) → s ≡ input.n → t < input.n → AreAlike (wide s t) (wide s s) (left s t) (right s t)
    alike_in s t same b =
        let e = is_enlarged input budget x on.fraction in
        let l = left_is s t budget.prices (bundle_at input t) (new (input.price s) budget.prices s (omega arith)) (old (bundle_at input t) x t b) in
        let r = right_is s t budget.expenditure (bundle_at input t) (new (1 * input.cost s s) budget.expenditure s (omega arith)) (old (bundle_at input t) x t b) in
        let w : wide s t ≡ x.den * spending input.goods budget.prices (input.quantity t) = subst (λ z. wide z t ≡ x.den * spending input.goods budget.prices (input.quantity t)) (sym same) (e.inward t b) in
        let o : wide s s ≡ x.den * budget.expenditure = subst (λ z. wide z z ≡ x.den * budget.expenditure) (sym same) e.itself in
        let u : left s t ≡ spending input.goods budget.prices (input.quantity t) = omega (arith, l) in
        let v : right s t ≡ budget.expenditure = omega (arith, r) in
        record { times = x.den; some = on.fraction; first = w ∙ ap (λ z. x.den * z) (sym u); second = o ∙ ap (λ z. x.den * z) (sym v) }

    alike_itself : (s t : ℕ) → s ≡ input.n → t ≡ input.n → AreAlike (wide s t) (wide s s) (left s t) (right s t)
    alike_itself s t same same_t =
        let e = is_enlarged input budget x on.fraction in
        let l = left_is s t budget.prices x (new (input.price s) budget.prices s (omega arith)) (new (bundle_at input t) x t (omega arith)) in
        let r = right_is s t budget.expenditure x (new (1 * input.cost s s) budget.expenditure s (omega arith)) (new (bundle_at input t) x t (omega arith)) in
        let o : wide s s ≡ x.den * budget.expenditure = subst (λ z. wide z z ≡ x.den * budget.expenditure) (sym same) e.itself in
        let w : wide s t ≡ x.den * budget.expenditure = subst (λ z. wide s z ≡ x.den * budget.expenditure) (same ∙ sym same_t) o in
        let p = on.spent in
        record { times = 1; some = omega arith; first = omega (arith, w, l, p); second = omega (arith, o, r) }

    alike : (s t : ℕ) → s < input.n + 1 → t < input.n + 1 → AreAlike (wide s t) (wide s s) (left s t) (right s t)
    alike s t a b = go (cases_lt s input.n) (cases_lt t input.n)
      where
        go : (s < input.n) ⊎ (input.n ≤ s) → (t < input.n) ⊎ (input.n ≤ t) → AreAlike (wide s t) (wide s s) (left s t) (right s t)
        go (inl h) (inl k) = alike_old s t h k
        go (inl h) (inr k) = alike_out s t h (omega arith)
        go (inr h) (inl k) = alike_in s t (omega arith) k
        go (inr h) (inr k) = alike_itself s t (omega arith) (omega arith)

    meets_where : MeetsGarp (input.n + 1) wide ↔ MeetAxiom (widened input budget x)
    meets_where = (
      no_violation_same (input.n + 1) (IsWeak wide) (IsStrict wide) (IsWeakChoice (widened input budget x)) (IsStrictChoice (widened input budget x))
          (λ s t a b. alike_weak (wide s t) (wide s s) (left s t) (right s t) (alike s t a b))
          (λ s t a b. alike_strict (wide s t) (wide s s) (left s t) (right s t) (alike s t a b)),
      no_violation_same (input.n + 1) (IsWeakChoice (widened input budget x)) (IsStrictChoice (widened input budget x)) (IsWeak wide) (IsStrict wide)
          (λ s t a b. let w = alike_weak (wide s t) (wide s s) (left s t) (right s t) (alike s t a b) in (w.1, w.0))
          (λ s t a b. let w = alike_strict (wide s t) (wide s s) (left s t) (right s t) (alike s t a b) in (w.1, w.0)),
    )

  -- ---- the best at a choice

  abbrev BestBy : (FractionBundle → FractionBundle → Type 0) → (ℕ → ℕ) → FractionBundle → ℕ → Type 0
  BestBy prefers p z o = (y : FractionBundle) → IsBundle y → CostsAtMost input.goods p y o 1 → IsAtLeastAsGood prefers z y

  best_old : (prefers : FractionBundle → FractionBundle → Type 0) (s : ℕ) → s < input.n → IsBest (widened input budget x) prefers s ≡ IsBest (choices_at input 1 1) prefers s
  best_old prefers s a = λ i. BestBy prefers (old (input.price s) budget.prices s a i) (old (bundle_at input s) x s a i) (old (1 * input.cost s s) budget.expenditure s a i)

  best_new : (prefers : FractionBundle → FractionBundle → Type 0) (s : ℕ) → input.n ≤ s → IsBest (widened input budget x) prefers s ≡ BestBy prefers budget.prices x budget.expenditure
  best_new prefers s a = λ i. BestBy prefers (new (input.price s) budget.prices s a i) (new (bundle_at input s) x s a i) (new (1 * input.cost s s) budget.expenditure s a i)

  module _ (full : IsFullInput input) (positive : (g : ℕ) → g < input.goods → 1 ≤ budget.prices g) (fraction : 0 < x.den) where
    are_choices : AreChoices (widened input budget x)
    are_choices = record {
      some = omega arith;
      some_goods = full.some_goods;
      positive_prices = λ s g a b. price_of s g b (cases_lt s input.n);
      bundles = λ s a. bundle_of s (cases_lt s input.n);
      positive_scale = omega arith;
    }
      where
        price_of : (s g : ℕ) → g < input.goods → (s < input.n) ⊎ (input.n ≤ s) → 1 ≤ (widened input budget x).price s g
        price_of s g b (inl l) = subst (λ p. 1 ≤ p g) (sym (old (input.price s) budget.prices s l)) (full.positive_prices s g l b)
        price_of s g b (inr l) = subst (λ p. 1 ≤ p g) (sym (new (input.price s) budget.prices s l)) (positive g b)

        bundle_of : (s : ℕ) → (s < input.n) ⊎ (input.n ≤ s) → IsBundle ((widened input budget x).bundle s)
        bundle_of s (inl l) = subst IsBundle (sym (old (bundle_at input s) x s l)) (omega arith)
        bundle_of s (inr l) = subst IsBundle (sym (new (bundle_at input s) x s l)) fraction

  pub supporting_is_bought_by_utility : IsFullInput input → ((g : ℕ) → g < input.goods → 1 ≤ budget.prices g) → IsSupportingDemand input budget x → IsBoughtByUtility input budget x
  supporting_is_bought_by_utility full positive is =
      let are = are_choices full positive is.on_budget.fraction in
      let has = concave_utility_exists (widened input budget x) are ((meets_where is.on_budget).0 is.meets) in
      let prefers = preference_of has.utility in
      record {
        on_budget = is.on_budget;
        utility = has.utility;
        concave_utility = has.concave_utility;
        rationalizes = λ s a. subst (λ T. T) (best_old prefers s a) (has.rationalizes s (omega arith));
        best = subst (λ T. T) (best_new prefers input.n (omega arith)) (has.rationalizes input.n (omega arith));
      }

  pub by_utility_is_bought : IsBoughtByUtility input budget x → IsBought input budget x
  by_utility_is_bought is = record {
    passes = passes_for is.utility;
    by_preference = record {
      on_budget = is.on_budget;
      fits = shown_fits (choices_at input 1 1) is.utility is.concave_utility is.rationalizes;
      best = λ y iy costs. (shows is.utility x y).0 (is.best y iy costs);
    };
  }

  pub bought_by_is_supporting : (prefers : FractionBundle → FractionBundle → Type 0) → IsFullInput input → ((g : ℕ) → g < input.goods → 1 ≤ budget.prices g) → IsBoughtBy input budget prefers x → IsSupportingDemand input budget x
  bought_by_is_supporting prefers full positive is =
      let are = are_choices full positive is.on_budget.fraction in
      record {
        on_budget = is.on_budget;
        meets = (meets_where is.on_budget).1 (meets_axiom (widened input budget x) are.bundles prefers is.fits.preference (λ s a. best_at s a (cases_lt s input.n)));
      }
    where
      best_at : (s : ℕ) → s < input.n + 1 → (s < input.n) ⊎ (input.n ≤ s) → IsBest (widened input budget x) prefers s
      best_at s a (inl l) = subst (λ T. T) (sym (best_old prefers s l)) (is.fits.rationalizes s l)
      best_at s a (inr l) = subst (λ T. T) (sym (best_new prefers s l)) is.best

  pub bought_is_supporting : IsFullInput input → ((g : ℕ) → g < input.goods → 1 ≤ budget.prices g) → IsBought input budget x → IsSupportingDemand input budget x
  bought_is_supporting full positive is = bought_by_is_supporting (shown_by is.passes) full positive is.by_preference

module _ (input : TableInput) (budget : BudgetInput) (full : IsFullInput input) (positive : (g : ℕ) → g < input.goods → 1 ≤ budget.prices g) where
  pub infimum_bought : (g num den : ℕ) → IsInfimum input budget g num den → IsInfimumBought input budget g num den
  infimum_bought g num den is = record {
    fraction = is.fraction;
    none_less = λ x bought. is.none_less x (bought_is_supporting input budget x full positive bought);
    approached = λ num' den' some l. let r = is.approached num' den' some l in (r.0, supporting_is_bought_by_utility input budget r.0 full positive r.1, r.2);
  }

  pub supremum_bought : (g num den : ℕ) → IsSupremum input budget g num den → IsSupremumBought input budget g num den
  supremum_bought g num den is = record {
    fraction = is.fraction;
    none_more = λ x bought. is.none_more x (bought_is_supporting input budget x full positive bought);
    approached = λ num' den' some l. let r = is.approached num' den' some l in (r.0, supporting_is_bought_by_utility input budget r.0 full positive r.1, r.2);
  }
