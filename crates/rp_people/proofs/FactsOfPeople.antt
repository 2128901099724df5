-- What holds the definitions of what verdicts say of people in place: bounds and indices are one number, the lower welfare
-- bound is not above the upper one, an item that says yes and one that says no exclude each other, and an item that says
-- yes says that its test holds.
use Rattle.std.proofs.Common.{◌≡◌, ℕ, ◌+◌, ◌*◌, ◌<◌, ◌≤◌, List, [], ◌∷◌, ap, refl, subst, sym, ◌∙◌, arith}
use Rattle.std.proofs.lemmas.Int.{ints}
use Rattle.std.specs.Prelude.{ℤ, pos, negsuc, ◌-ℤ◌, ◌*ℤ◌, ◌≤ℤ◌}
use Rattle.rp_num.specs.Fraction.{Fraction}
use Rattle.rp_table.specs.Spending.{spending}
use Rattle.rp_evidence.specs.Demand.{BudgetInput, FractionBundle}
use Rattle.rp_evidence.specs.Garp.{HasNoViolation}
use Rattle.rp_evidence.specs.Homothetic.{MeetsHomotheticTest}
use Rattle.rp_evidence.specs.Input.{TableInput}
use Rattle.rp_evidence.specs.Preference.{IsLevel, StrictByLevels, WeakByLevels}
use Rattle.rp_evidence.specs.Quasilinear.{MeetsQuasilinearTest}
use Rattle.rp_evidence.specs.WelfareModels.{bundle_at}
use Rattle.rp_evidence.specs.declared.demand.Bound.TheVariants.{Shown}
use Rattle.rp_people.specs.AfriatUtility.{IsUtilityOfNumbers}
use Rattle.rp_people.specs.BoughtBundles.{IsInfimumBought, IsSupremumBought}
use Rattle.rp_people.specs.Bundles.{IsBundle}
use Rattle.rp_people.specs.Choices.{Choices}
use Rattle.rp_people.specs.DividedLevels.{DividesLevels}
use Rattle.rp_people.specs.Fractions.{AreEqual, SignedFraction}
use Rattle.rp_people.specs.Money.{HasConcaveWorth, HasWorth, RationalizesWithMoney, gain}
use Rattle.rp_people.specs.Preferences.{shown_by}
use Rattle.rp_people.specs.Rationalizing.{HasConcaveUtility, HasHomogeneousUtility, HasNonsatiatedHomotheticPreference, HasNonsatiatedPreference}
use Rattle.rp_people.specs.TableChoices.{IsFullInput, choices_at, choices_of}
use Rattle.rp_people.specs.WelfareOfPeople.{BoundWelfareOfPeople}
use Rattle.rp_people.proofs.Bought.{by_utility_is_bought}
use Rattle.rp_people.proofs.Differences.{both_at_most}
use Rattle.rp_people.proofs.FactsOfBundles.{over, ratio}
use Rattle.rp_people.proofs.FactsOfEvidence.{one_number}
use Rattle.rp_people.proofs.Orders.{nonsatiated_of_preference, preference_of_concave, preference_of_homogeneous}
use Rattle.rp_people.proofs.Rooms.{more_is_nonsatiated}
use Rattle.rp_people.proofs.SaysOfItems.{homothetic_meets, worth_meets}
use Rattle.rp_people.proofs.TableLaws.{by_levels}

-- ---- bounds of what people buy

module _ (input : TableInput) (budget : BudgetInput) (g num den num' den' : ℕ) where
  infimum_bought_is_one : IsInfimumBought input budget g num den → IsInfimumBought input budget g num' den' → num * den' ≡ num' * den
  infimum_bought_is_one is other =
      one_number num den num' den'
      (λ l. let r = is.approached num' den' other.fraction l in other.none_less r.0 (by_utility_is_bought input budget r.0 r.1) r.2)
      (λ l. let r = other.approached num den is.fraction l in is.none_less r.0 (by_utility_is_bought input budget r.0 r.1) r.2)

  supremum_bought_is_one : IsSupremumBought input budget g num den → IsSupremumBought input budget g num' den' → num * den' ≡ num' * den
  supremum_bought_is_one is other =
      one_number num den num' den'
      (λ l. let r = other.approached num den is.fraction l in is.none_more r.0 (by_utility_is_bought input budget r.0 r.1) r.2)
      (λ l. let r = is.approached num' den' other.fraction l in other.none_more r.0 (by_utility_is_bought input budget r.0 r.1) r.2)

-- ---- welfare: where someone rationalizes the table, the lower bound is not above the upper

lower_is_below_upper : (input : TableInput) (prices : ℕ → ℕ) (t upper at : ℕ) (value : Fraction) (pair : _) → HasNonsatiatedPreference (choices_at input 1 1) → BoundWelfareOfPeople input prices t upper at (Shown value pair)
    → value.num ≤ upper * value.den
lower_is_below_upper input prices t upper at value pair has is =
    let kept = is.kept has.passes has.fits in
    let enough = kept.none_cheaper (bundle_at input at) (omega arith) kept.as_good in
    subst (λ u. value.num ≤ u * value.den) is.costs (omega (arith, enough))

-- ---- the level that divides is one: between two there would be a level at which some preference and none rationalizes

index_is_one : (input : TableInput) (num den num' den' : ℕ) → IsLevel num den → IsLevel num' den' → DividesLevels input num den → DividesLevels input num' den' → num * den' ≡ num' * den
index_is_one input num den num' den' level level' is other =
    one_number num den num' den' (none_between num den num' den' level level' is other) (λ l. none_between num' den' num den level' level other is (omega arith))
  where
    none_between : (num den num' den' : ℕ) → IsLevel num den → IsLevel num' den' → DividesLevels input num den → DividesLevels input num' den' → ¬ (num * den' < num' * den)
    none_between num den num' den' level level' is other l =
        let between : IsLevel (num + num') (den + den') = (omega (arith, level.0), omega (arith, level.1, level'.1)) in
        let has = other.utility_below (num + num') (den + den') between (omega arith) in
        is.none_above (num + num') (den + den') between (omega arith) (nonsatiated_of_preference (choices_at input (num + num') (den + den')) (preference_of_concave (choices_at input (num + num') (den + den')) has))

-- ---- yes and no exclude each other

module _ (choices : Choices) where
  utility_or_none : HasConcaveUtility choices → ¬ (¬ HasNonsatiatedPreference choices)
  utility_or_none has none = none (nonsatiated_of_preference choices (preference_of_concave choices has))

  homogeneous_or_none : HasHomogeneousUtility choices → ¬ (¬ HasNonsatiatedHomotheticPreference choices)
  homogeneous_or_none has none =
      let h = preference_of_homogeneous choices has.utility has.concave_utility.utility_of_bundles has.concave_utility.monotone has.homogeneous has.rationalizes in
      none (record {
        passes = h.passes;
        fits = record {
          complete = h.preference.complete;
          transitive = h.preference.transitive;
          nonsatiated = more_is_nonsatiated choices.goods (shown_by h.passes) h.preference.monotone;
          homothetic = h.homothetic;
          rationalizes = h.rationalizes;
        };
      })

  worth_or_none : HasConcaveWorth choices → ¬ (¬ HasWorth choices)
  worth_or_none has none = none (record { worth = has.worth; rationalizes = has.rationalizes })

-- ---- yes says that the test holds

module _ (input : TableInput) (full : IsFullInput input) where
  utility_meets : HasConcaveUtility (choices_of input) → HasNoViolation input.n (WeakByLevels input.levels input.cost) (StrictByLevels input.levels input.cost)
  utility_meets has = (by_levels input full).utility.0 has

  homogeneous_meets : HasHomogeneousUtility (choices_at input 1 1) → MeetsHomotheticTest input.n input.cost
  homogeneous_meets has =
      let h = preference_of_homogeneous (choices_at input 1 1) has.utility has.concave_utility.utility_of_bundles has.concave_utility.monotone has.homogeneous has.rationalizes in
      homothetic_meets input full (record {
        passes = h.passes;
        fits = record {
          complete = h.preference.complete;
          transitive = h.preference.transitive;
          nonsatiated = more_is_nonsatiated input.goods (shown_by h.passes) h.preference.monotone;
          homothetic = h.homothetic;
          rationalizes = h.rationalizes;
        };
      })

  concave_worth_meets : HasConcaveWorth (choices_at input 1 1) → MeetsQuasilinearTest input.n input.cost
  concave_worth_meets has = worth_meets input (record { worth = has.worth; rationalizes = has.rationalizes })

-- ---- the choices of a table: at 4/5 of what was spent, and by levels in thousandths

four_fifths : (input : TableInput) (s : ℕ) → ((choices_at input 4 5).scale ≡ 5) × ((choices_at input 4 5).own s ≡ 4 * input.cost s s)
four_fifths input s = (refl, refl)

-- ---- the numbers of a model have one utility

utility_is_one : (choices : Choices) (number : ℕ → ℤ) (multiplier : ℕ → ℕ) (u v : FractionBundle → SignedFraction) → IsUtilityOfNumbers choices number multiplier u → IsUtilityOfNumbers choices number multiplier v
    → (x : FractionBundle) → IsBundle x → AreEqual (u x) (v x)
utility_is_one choices number multiplier u v is other x ix =
    let a = is.least x ix in
    let b = other.least x ix in
    let low : (u x).num ≤ℤ (v x).num = subst (λ z. (u x).num ≤ℤ z) (sym b.reached.2) (a.least b.reached.0 b.reached.1) in
    let high : (v x).num ≤ℤ (u x).num = subst (λ z. (v x).num ≤ℤ z) (sym a.reached.2) (b.least a.reached.0 a.reached.1) in
    let e = both_at_most (u x).num (v x).num low high in
    let d : (v x).den ≡ (u x).den = other.over x ix ∙ sym (is.over x ix) in
    ap (λ n. n *ℤ pos (v x).den) e ∙ ap (λ k. (v x).num *ℤ pos k) d

-- ---- a table of one good: of a price and a bundle that are not 0, and held by its own level

abbrev lone_table : ℕ → ℕ → List ℕ → TableInput
lone_table p q levels = record {
  n = 1;
  goods = 1;
  price = λ s g. p;
  quantity = λ s g. q;
  cost = λ s t. spending 1 (λ g. p) (λ g. q);
  levels = levels;
  sums = λ s t a b. refl;
}

lone_is_full : IsFullInput (lone_table 2 3 [])
lone_is_full = record { some = omega arith; some_goods = omega arith; positive_prices = λ s g a b. omega arith; positive_costs = λ s t a b. omega arith }

no_price_is_nothing : ¬ IsFullInput (lone_table 0 3 [])
no_price_is_nothing full = let l = full.positive_prices 0 0 (omega arith) (omega arith) in absurd (omega (arith, l))

no_bundle_is_empty : ¬ IsFullInput (lone_table 2 0 [])
no_bundle_is_empty full = let l = full.positive_costs 0 0 (omega arith) (omega arith) in absurd (omega (arith, l))

held_to_800 : ((choices_of (lone_table 2 3 (800 ∷ []))).scale ≡ 1000) × ((choices_of (lone_table 2 3 (800 ∷ []))).own 0 ≡ 4800)
held_to_800 = (refl, refl)

-- ---- money: one choice of 1 at the price 1. Who holds a bundle to be worth what it costs gains nothing of any; who holds
-- it to be worth twice that gains more of 5.

abbrev lone : Choices
lone = record {
  n = 1;
  goods = 1;
  price = λ s g. 1;
  bundle = λ s. over 1 (1 ∷ []);
  scale = 1;
  own = λ s. 1;
}

abbrev worth_times : ℕ → FractionBundle → SignedFraction
worth_times k x = ratio (pos (k * x.num 0)) x.den

gain_of_three_halves : AreEqual (gain 1 (λ g. 1) (worth_times 2) (over 2 (3 ∷ []))) (ratio (pos 3) 2)
gain_of_three_halves = refl

loss_of_three_halves : AreEqual (gain 1 (λ g. 3) (worth_times 2) (over 2 (3 ∷ []))) (ratio (negsuc 2) 2)
loss_of_three_halves = refl

worth_what_it_costs : RationalizesWithMoney lone (worth_times 1)
worth_what_it_costs = record { fraction = λ x ix. ix; none_gains_more = λ s x l ix. nothing (1 * x.num 0) (spending 1 (λ g. 1) x.num) x.den (omega arith) }
  where
    nothing : (v w d : ℕ) → v ≡ w → (((pos v *ℤ pos d) -ℤ (pos w *ℤ pos d)) *ℤ pos (1 * 1)) ≤ℤ (((pos 1 *ℤ pos 1) -ℤ (pos 1 *ℤ pos 1)) *ℤ pos (d * d))
    nothing v w d same = let e = ap (λ z. z * d) same in omega (arith, ints)

not_worth_twice : ¬ RationalizesWithMoney lone (worth_times 2)
not_worth_twice is = let l = is.none_gains_more 0 (over 1 (5 ∷ [])) (omega arith) (omega arith) in absurd (omega (arith, ints, l))
