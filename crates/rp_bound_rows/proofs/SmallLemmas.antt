-- The parts of shown bounds are small: they are lowest terms of evidence within its width.
use Rattle.std.proofs.Common.{◌<◌, ◌≤◌, ◌*◌, ◌^◌, ℕ, zero, suc, List, [], ◌∷◌, All, slice_index, arith}
use Rattle.std.proofs.lemmas.Nat.{mul-le}
use Rattle.rp_evidence.specs.BoundEvidence.{BoundHolds}
use Rattle.rp_evidence.specs.Demand.{spending}
use Rattle.rp_evidence.specs.DemandEvidence.{budget_of}
use Rattle.rp_evidence.specs.DemandPrograms.{lower_program, upper_program}
use Rattle.rp_evidence.specs.Input.{TableInput, input_of_table}
use Rattle.rp_evidence.specs.LeastCost.{least_cost_program}
use Rattle.rp_evidence.specs.declared.demand.Bound.{Bound}
use Rattle.rp_evidence.specs.declared.demand.Bound.TheVariants.{Shown, Wide}
use Rattle.rp_evidence.specs.declared.demand.DemandPart.{DemandPart}
use Rattle.rp_evidence.specs.declared.demand.DemandPart.TheVariants.{Bounds, NoModel}
use Rattle.rp_evidence.specs.declared.demand.GoodBounds.{GoodBounds}
use Rattle.rp_evidence.specs.declared.demand.WelfarePart.{WelfarePart}
use Rattle.rp_evidence.specs.declared.demand.WelfarePart.TheVariants.{Bounds as WelfareBounds, NoModel as NoWelfare}
use Rattle.rp_evidence.specs.declared.garp.Garp.{Garp}
use Rattle.rp_evidence.specs.declared.garp.Garp.TheVariants.{Cycle, Ranks}
use Rattle.rp_farkas.specs.Limits.{FitsEvidence}
use Rattle.rp_farkas.specs.LinearProgram.{LinearProgram}
use Rattle.rp_farkas.specs.PairCheck.{IsShownPair}
use Rattle.rp_farkas.specs.declared.entry.Pair.{Pair}
use Rattle.rp_limits.specs.declared.table.TheConstants.{LARGEST}
use Rattle.rp_num.specs.Fraction.{Fraction, IsLowestTerms}
use Rattle.rp_support.specs.Bounds.{AreBoundsOf}
use Rattle.rp_support.specs.DemandVerdict.{IsDemandVerdict}
use Rattle.rp_table.specs.NewPrices.{AreNewPrices}
use Rattle.rp_table.specs.Sums.{sum_below}
use Rattle.rp_table.specs.Tables.{IsTable, Observations, goods_of}
use Rattle.rp_welfare.specs.WelfareVerdict.{IsWelfareVerdict}
use Rattle.rp_bound_rows.specs.SmallParts.{HasSmallDemand, HasSmallGood, HasSmallParts, HasSmallWelfare}
use Rattle.rp_bound_rows.proofs.AmountLemmas.{lowest_small}

small_shown : (p : LinearProgram) (num : ℕ) (value : Fraction) (pair : Pair) → IsShownPair p pair → num < 2 ^ 107 → IsLowestTerms num pair.den value → HasSmallParts (Shown value pair)
small_shown p num value pair shown small lowest =
    let least = lowest_small num pair.den value (omega (arith, shown.den_positive)) lowest in
    (omega (arith, least.0, small), omega (arith, least.1, shown.den_fits))

-- what is shown by a pair of which the measure is small
pub small_bound : (p : LinearProgram) (measure : (ℕ → ℕ) → ℕ) (bound : Bound) → ((pair : Pair) → IsShownPair p pair → measure (slice_index pair.x) < 2 ^ 107) → BoundHolds p measure bound → HasSmallParts bound
small_bound p measure (Shown value pair) small holds = small_shown p (measure (slice_index pair.x)) value pair holds.0 (small pair holds.0) holds.1
small_bound p measure (Wide step) small holds = tt

-- ---- demand

pub small_good : (p : LinearProgram) (g : ℕ) (bound : Bound) → g < p.rows → BoundHolds p (λ x. x g) bound → HasSmallParts bound
small_good p g bound row holds = small_bound p (λ x. x g) bound (λ pair shown. omega (arith, shown.x_fits g 0 (omega (arith, row, shown.x_length)))) holds

small_goods : (input : TableInput) (prices : List ℕ) (m : ℕ) (below : List ℕ) (goods : List GoodBounds) → AreBoundsOf input (budget_of prices m) below goods → All HasSmallGood goods
small_goods input prices m below goods are k d within =
    let g_in : k < input.goods = omega (arith, within, are.one_each) in (
      small_good (lower_program input (budget_of prices m) below k) k _ g_in (are.lower k d g_in).value,
      small_good (upper_program input (budget_of prices m) below k) k _ g_in (are.upper k d g_in).value,
    )

pub small_demand : (input : TableInput) (prices : List ℕ) (m : ℕ) (garp : Garp) (part : DemandPart) → IsDemandVerdict input (budget_of prices m) garp part → HasSmallDemand part
small_demand input prices m (Ranks ranks) (Bounds below strict inner goods) given = small_goods input prices m below goods given.1
small_demand input prices m (Ranks ranks) (NoModel walk) given = tt
small_demand input prices m (Cycle cycle) (Bounds below strict inner goods) given = absurd given
small_demand input prices m (Cycle cycle) (NoModel walk) given = tt

-- ---- the money metric

-- an entry of a list, and 0 past its end, is at most what its entries are
at_most : (xs : List ℕ) (most k : ℕ) → All (λ x. x ≤ most) xs → slice_index xs k ≤ most
at_most [] most k all = omega arith
at_most (x ∷ xs) most zero all = all 0 0 (omega arith)
at_most (x ∷ xs) most (suc k) all = at_most xs most k (λ j d within. all (suc j) d (omega (arith, within)))

sum_at_most : (f : ℕ → ℕ) (most k : ℕ) → ((i : ℕ) → i < k → f i ≤ most) → sum_below k f ≤ k * most
sum_at_most f most zero each = omega arith
sum_at_most f most (suc k) each = omega (arith, sum_at_most f most k (λ i i_in. each i (omega arith)), each k (omega arith))

module _ (table : Observations) (valid : IsTable table) (prices : List ℕ) (new : AreNewPrices (goods_of table) prices) where
  pub spending_small : (x : List ℕ) → All FitsEvidence x → spending (goods_of table) (slice_index prices) (slice_index x) < 2 ^ 107
  spending_small x fits =
      let price : (g : ℕ) → slice_index prices g ≤ LARGEST = λ g. at_most prices LARGEST g (λ k d within. (new.fit k d within).1) in
      let small : (g : ℕ) → slice_index x g ≤ 2 ^ 63 = λ g. at_most x (2 ^ 63) g (λ k d within. omega (arith, fits k d within)) in
      let each : (g : ℕ) → g < goods_of table → slice_index prices g * slice_index x g ≤ LARGEST * 2 ^ 63 = λ g g_in. mul-le (slice_index prices g) (slice_index x g) LARGEST (2 ^ 63) (price g) (small g) in
      let sum = sum_at_most (λ g. slice_index prices g * slice_index x g) (LARGEST * 2 ^ 63) (goods_of table) each in
      omega (arith, sum, valid.few_goods)

  pub small_welfare : (t : ℕ) (garp : Garp) (part : WelfarePart) → IsWelfareVerdict (input_of_table table) prices t garp part → HasSmallWelfare part
  small_welfare t garp (WelfareBounds upper at lower) given =
      small_bound (least_cost_program (input_of_table table) (slice_index prices) given.lower_is.reached) (spending (goods_of table) (slice_index prices)) lower (λ pair shown. spending_small pair.x shown.x_fits) given.lower_is.is_bound.value
  small_welfare t garp (NoWelfare walk) given = tt
