-- What is given on demand at new prices and on welfare fits.
use Rattle.std.proofs.Common.{◌≡◌, ◌<◌, ◌≤◌, ◌+◌, ◌-◌, ◌*◌, ◌^◌, ◌==◌, ℕ, zero, suc, Bool, true, false, List, [], ◌∷◌, length, All, arith, inl, inr, subst, slice_index, if◌then◌else◌}
use Rattle.std.proofs.lemmas.List.{get_or_default}
use Rattle.std.proofs.lemmas.Nat.{mul-le}
use Rattle.rp_table.specs.Limits.{IsExpenditure}
use Rattle.rp_table.specs.NewPrices.{AreNewPrices}
use Rattle.rp_evidence.specs.Demand.{BudgetInput, IsBelow, IsInnerDemand, IsStrictlyBelow, spending}
use Rattle.rp_evidence.specs.DemandEvidence.{ProvesDemand, ProvesWelfare, budget_of, bundle_of}
use Rattle.rp_evidence.specs.DemandPrograms.{lower_program, upper_program}
use Rattle.rp_evidence.specs.Input.{TableInput}
use Rattle.rp_evidence.specs.Preference.{IsWeak}
use Rattle.rp_evidence.specs.LeastCost.{least_cost_program}
use Rattle.rp_evidence.specs.Welfare.{EqualsOrReaches, IsUpperWelfare}
use Rattle.rp_evidence.specs.declared.demand.Bound.{Bound}
use Rattle.rp_evidence.specs.declared.demand.Bound.TheVariants.{Shown, Wide}
use Rattle.rp_evidence.specs.declared.demand.DemandPart.{DemandPart}
use Rattle.rp_evidence.specs.declared.demand.DemandPart.TheVariants.{Bounds, NoModel}
use Rattle.rp_evidence.specs.declared.demand.GoodBounds.{GoodBounds}
use Rattle.rp_evidence.specs.declared.demand.Point.{Point}
use Rattle.rp_evidence.specs.declared.demand.WelfarePart.{WelfarePart}
use Rattle.rp_evidence.specs.declared.demand.WelfarePart.TheVariants.{Bounds as WelfareBounds, NoModel as NoWelfare}
use Rattle.rp_evidence.specs.declared.garp.Garp.{Garp}
use Rattle.rp_evidence.specs.declared.garp.Garp.TheVariants.{Ranks, Cycle}
use Rattle.rp_farkas.specs.Limits.{FitsEvidence}
use Rattle.rp_farkas.specs.LinearProgram.{LinearProgram}
use Rattle.rp_farkas.specs.Listing.{IsListing}
use Rattle.rp_farkas.specs.PairCheck.{IsShownPair}
use Rattle.rp_farkas.specs.declared.entry.Entry.{Entry}
use Rattle.rp_farkas.specs.declared.entry.Pair.{Pair}
use Rattle.rp_json_programs.specs.Limits.{FitsBound, FitsDemand, FitsEntry, FitsGood, FitsPoint, FitsWelfare}
use Rattle.rp_json_entries.specs.Reading.{FitsCount, FitsLong}
use Rattle.rp_json_entries.proofs.ListLemmas.{all_rest}
use Rattle.rp_num.specs.Fraction.{Fraction, FitsTerm, FitsWidth, IsLowestTerms}
use Rattle.rp_num.specs.Spelled.{IsReduced}
use Rattle.rp_num.proofs.Coprime.{IsGcd-exists}
use Rattle.rp_num.proofs.Lowest.{FitsWidth-divided, IsLowestTerms-divided, IsLowestTerms-itself, same_IsLowestTerms}
use Rattle.rp_simplex.specs.Outcome.{EndsPastWidth}
use Rattle.rp_simplex.specs.ProgramBound.{IsBoundOf}
use Rattle.rp_support.specs.Bounds.{AreBoundsOf}
use Rattle.rp_support.specs.DemandVerdict.{IsDemandVerdict}
use Rattle.rp_table.specs.Sums.{sum_below}
use Rattle.rp_limits.specs.declared.table.TheConstants.{LARGEST, RECORDS}
use Rattle.rp_welfare.specs.WelfareVerdict.{IsLowerBound, IsWelfareVerdict}
use Rattle.rp_agreement.specs.Limited.{IsLimited}
use Rattle.rp_agreement.proofs.Lists.{listed_fit, rising_few, walk_fits}

-- ---- numbers

-- the lowest terms of a fraction of two parts within the width are within it
pub lowest_fits : (n d : ℕ) (f : Fraction) → 1 ≤ d → FitsTerm n → FitsTerm d → IsLowestTerms n d f → IsReduced f
lowest_fits n d f positive num_fits den_fits lowest =
    let g = IsGcd-exists n d in
    let same = same_IsLowestTerms n d _ f positive (IsLowestTerms-divided n d g.0 positive g.1) lowest in
    (IsLowestTerms-itself n d f lowest, subst FitsWidth same (FitsWidth-divided n d g.0 num_fits den_fits))

-- an entry of a list, and 0 past its end, is at most what its entries are
at_most : (xs : List ℕ) (most k : ℕ) → All (λ x. x ≤ most) xs → slice_index xs k ≤ most
at_most [] most k all = omega arith
at_most (x ∷ xs) most zero all = all 0 0 (omega arith)
at_most (x ∷ xs) most (suc k) all = at_most xs most k (all_rest (λ x. x ≤ most) x xs all)

sum_at_most : (f : ℕ → ℕ) (most k : ℕ) → ((i : ℕ) → i < k → f i ≤ most) → sum_below k f ≤ k * most
sum_at_most f most zero each = omega arith
sum_at_most f most (suc k) each = omega (arith, sum_at_most f most k (λ i i_in. each i (omega arith)), each k (omega arith))

chosen_at_most : (b : Bool) (x most : ℕ) → x ≤ most → (if b then x else 0) ≤ most
chosen_at_most true x most small = small
chosen_at_most false x most small = omega arith

-- ---- bounds

entries_fit : (cols : ℕ) (entries : List Entry) → cols ≤ 2 ^ 31 → IsListing cols entries → All FitsEntry entries
entries_fit cols entries few listed k d within = (omega (arith, few, listed.columns k d within), omega (arith, listed.fitting k d within))

evidence_fits : (xs : List ℕ) → All FitsEvidence xs → All FitsLong xs
evidence_fits xs fits k d within = omega (arith, fits k d within)

pair_fits : (p : LinearProgram) (pair : Pair) (value : Fraction) (num : ℕ) → p.cols ≤ 2 ^ 31 → IsShownPair p pair → num < 2 ^ 127 → IsLowestTerms num pair.den value
    → FitsBound (Shown value pair)
pair_fits p pair value num few shown small lowest = (
  omega (arith, shown.den_fits),
  lowest_fits num pair.den value (omega (arith, shown.den_positive)) small (omega (arith, shown.den_fits)) lowest,
  evidence_fits pair.x shown.x_fits,
  entries_fit p.cols pair.y few shown.y_listed,
)

step_fits : (p : LinearProgram) (step : ℕ) → EndsPastWidth p step → FitsLong step
step_fits p step passes = omega (arith, passes.step_is)

bound_fits : (p : LinearProgram) (measure : (ℕ → ℕ) → ℕ) (bound : Bound) → p.cols ≤ 2 ^ 31 → ((pair : Pair) → IsShownPair p pair → measure (slice_index pair.x) < 2 ^ 127)
    → IsBoundOf p measure bound → FitsBound bound
bound_fits p measure (Shown value pair) few small is = pair_fits p pair value (measure (slice_index pair.x)) few is.value.0 (small pair is.value.0) is.value.1
bound_fits p measure (Wide step) few small is = step_fits p step is.run

good_fits : (p : LinearProgram) (g : ℕ) (bound : Bound) → p.cols ≤ 2 ^ 31 → g < p.rows → IsBoundOf p (λ x. x g) bound → FitsBound bound
good_fits p g bound few row is = bound_fits p (λ x. x g) bound few (λ pair shown. omega (arith, shown.x_fits g 0 (omega (arith, row, shown.x_length)))) is

-- ---- at new prices

prices_at_most : (goods : ℕ) (prices : List ℕ) → AreNewPrices goods prices → All (λ p. p ≤ LARGEST) prices
prices_at_most goods prices new k d within = (new.fit k d within).1

prices_fit : (goods : ℕ) (prices : List ℕ) → AreNewPrices goods prices → All FitsCount prices
prices_fit goods prices new k d within = omega (arith, (new.fit k d within).1)

module _ (input : TableInput) (limited : IsLimited input) (prices : List ℕ) (new : AreNewPrices input.goods prices) where
  few : input.n ≤ RECORDS
  few = limited.few_observations

  price_small : (g : ℕ) → slice_index prices g ≤ LARGEST
  price_small g = at_most prices LARGEST g (prices_at_most input.goods prices new)

  cost_small : (s g : ℕ) → s < input.n → g < input.goods → slice_index prices g * input.quantity s g ≤ LARGEST * LARGEST
  cost_small s g s_in g_in = mul-le (slice_index prices g) (input.quantity s g) LARGEST LARGEST (price_small g) (limited.quantities s g s_in g_in)

  -- ---- demand

  module _ (m : ℕ) (spends : IsExpenditure m) where
    abbrev budget : BudgetInput
    budget = budget_of prices m

    numerator_fits : (inner : Point) → IsInnerDemand input budget (bundle_of inner) → (g : ℕ) → g < input.goods → slice_index inner.num g < 2 ^ 64
    numerator_fits inner demand g g_in = elim demand.parts [
      | inl (s, counts, are, start, each) ↦ omega (
        arith,
        each g g_in,
        mul-le (slice_index prices 0) (input.quantity s g) LARGEST LARGEST (price_small 0) (limited.quantities s g start.observed g_in),
        chosen_at_most (g == 0) (m - spending input.goods (slice_index prices) (input.quantity s)) m (omega arith),
        spends.1,
      )
      | inr (none, each) ↦ omega (arith, each g g_in, chosen_at_most (g == 0) m m (omega arith), spends.1)
    ]

    point_fits : (inner : Point) → length inner.num ≡ input.goods → IsInnerDemand input budget (bundle_of inner) → FitsPoint inner
    point_fits inner goods demand = (
      omega (arith, demand.over, price_small 0),
      (λ k d within. omega (arith, numerator_fits inner demand k (omega (arith, goods, within)), get_or_default inner.num k d 0 within)),
    )

    goods_fit : (below : List ℕ) (goods : List GoodBounds) → length below ≤ input.n → AreBoundsOf input budget below goods → All FitsGood goods
    goods_fit below goods short are k d within =
        let g_in : k < input.goods = omega (arith, within, are.one_each) in
        let narrow : length below + 2 ≤ 2 ^ 31 = omega (arith, short, few) in (
          good_fits (lower_program input budget below k) k _ narrow g_in (are.lower k d g_in),
          good_fits (upper_program input budget below k) k _ narrow g_in (are.upper k d g_in),
        )

    pub demand_fits : (verdict : Garp) (part : DemandPart) → ProvesDemand input prices m part → IsDemandVerdict input budget verdict part → FitsDemand prices m part
    demand_fits (Ranks ranks) (Bounds below strict inner goods) (each_good, proves) (demand, are) =
        let lists = proves.below_listed in (
          listed_fit input.n few below (IsBelow input budget) (λ t. (lists.just_these t).0),
          omega (arith, spends.1),
          goods_fit below goods (rising_few input.n few below (IsBelow input budget) lists.rising (λ t. (lists.just_these t).0)) are,
          point_fits inner proves.inner_goods demand,
          prices_fit input.goods prices new,
          listed_fit input.n few strict (IsStrictlyBelow input budget) (λ t. (proves.strict_listed.just_these t).0),
        )
    demand_fits (Ranks ranks) (NoModel walk) proves given = absurd given
    demand_fits (Cycle cycle) (Bounds below strict inner goods) proves given = absurd given
    demand_fits (Cycle cycle) (NoModel walk) proves given =
        (walk_fits input.n few (IsWeak input.cost) walk proves.0, omega (arith, spends.1), prices_fit input.goods prices new)

  -- ---- welfare

  upper_fits : (t s cost : ℕ) → IsUpperWelfare input (slice_index prices) t s cost → cost < 2 ^ 64
  upper_fits t s cost upper =
      let sum = sum_at_most (λ g. slice_index prices g * input.quantity s g) (LARGEST * LARGEST) input.goods (λ g g_in. cost_small s g upper.observed g_in) in
      omega (arith, upper.costs, sum, limited.few_goods)

  side_fits : (x : List ℕ) → All FitsEvidence x → spending input.goods (slice_index prices) (slice_index x) < 2 ^ 127
  side_fits x fits =
      let small : (g : ℕ) → slice_index x g ≤ 2 ^ 63 = λ g. at_most x (2 ^ 63) g (λ k d within. omega (arith, fits k d within)) in
      let each : (g : ℕ) → g < input.goods → slice_index prices g * slice_index x g ≤ LARGEST * 2 ^ 63 = λ g g_in. mul-le (slice_index prices g) (slice_index x g) LARGEST (2 ^ 63) (price_small g) (small g) in
      let sum = sum_at_most (λ g. slice_index prices g * slice_index x g) (LARGEST * 2 ^ 63) input.goods each in
      omega (arith, sum, limited.few_goods)

  lower_fits : (t : ℕ) (bound : Bound) → IsLowerBound input (slice_index prices) t bound → FitsBound bound
  lower_fits t bound lower =
      bound_fits (least_cost_program input (slice_index prices) lower.reached) (spending input.goods (slice_index prices)) bound narrow (λ pair shown. side_fits pair.x shown.x_fits) lower.is_bound
    where
      narrow : length lower.reached ≤ 2 ^ 31
      narrow = omega (arith, few, rising_few input.n few lower.reached (EqualsOrReaches input t) lower.listed.rising (λ s. (lower.listed.just_these s).0))

  pub welfare_fits : (t : ℕ) → t < input.n → (verdict : Garp) (part : WelfarePart) → ProvesWelfare input prices t part → IsWelfareVerdict input prices t verdict part → FitsWelfare prices t part
  welfare_fits t t_in verdict (WelfareBounds upper at lower) proves given = (
    omega (arith, few, given.cheapest.upper.observed),
    lower_fits t lower given.lower_is,
    omega (arith, few, t_in),
    prices_fit input.goods prices new,
    upper_fits t at upper given.cheapest.upper,
  )
  welfare_fits t t_in verdict (NoWelfare walk) proves given =
      (walk_fits input.n few (IsWeak input.cost) walk proves.0, omega (arith, few, t_in), prices_fit input.goods prices new)
