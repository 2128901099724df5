-- Bounds on costs with what is found for the lower one.
use Rattle.std.proofs.Common.{◌≡◌, ◌≤◌, ◌↔◌, ◌∙◌, [], ℕ, List, Option, Some, None, arith, refl, sym, subst, slice_index}
use Rattle.rp_cost.specs.AskedOutputs.{AskedOutputs}
use Rattle.rp_cost.specs.Axioms.{MeetsCost}
use Rattle.rp_cost.specs.declared.axioms.Axiom.{Axiom}
use Rattle.rp_cost.specs.declared.axioms.Axiom.TheVariants.{Holds, Pair}
use Rattle.rp_cost.specs.CostBounds.{AreCostBounds, IsUpperCostBound, LowerHolds, ShowsNothing, UpperHolds}
use Rattle.rp_cost.specs.Technology.{Technology}
use Rattle.rp_cost.specs.declared.bounds.CostBounds.{CostBounds}
use Rattle.rp_cost.specs.declared.upper.Upper.{Upper}
use Rattle.rp_cost.proofs.AtMost.{lower_at_most}
use Rattle.rp_cost.proofs.NothingBelow.{nothing_shown}
use Rattle.rp_cost.proofs.OuterLaws.{holds_proves}
use Rattle.rp_cost.proofs.ProducerBounds.{bound_producers}
use Rattle.rp_evidence.specs.BoundEvidence.{BoundHolds}
use Rattle.rp_evidence.specs.Demand.{spending}
use Rattle.rp_evidence.specs.DemandEvidence.{withheld_bound}
use Rattle.rp_evidence.specs.Input.{TableInput, input_of_table}
use Rattle.rp_evidence.specs.LeastCost.{least_cost_program}
use Rattle.rp_evidence.specs.declared.demand.Bound.{Bound}
use Rattle.rp_evidence.specs.declared.demand.Bound.TheVariants.{Shown, Wide}
use Rattle.rp_evidence.proofs.Enumerations.{enumerates_few, enumerates_observed, enumeration_is_one}
use Rattle.rp_producers.specs.OuterSet.{ListsNotAbove}
use Rattle.rp_table.specs.NewPrices.{AreNewPrices}
use Rattle.rp_table.specs.Rows.{row_of}
use Rattle.rp_table.specs.Tables.{goods_of}
use Rattle.rp_limits.specs.declared.table.TheConstants.{RECORDS}
use Rattle.rp_filled.specs.FilledCosts.{AreFilledBounds, AreFilledCosts, IsFilledCost}
use Rattle.rp_filled.specs.InnerFound.{AreListed, ArePaired, IsFoundBound}

module _ (input : TableInput) (y : ℕ → ℕ) (y0 : ℕ) (prices : ℕ → ℕ) where
  upper_holds : (upper : Option Upper) → IsUpperCostBound input y y0 prices upper → UpperHolds input y y0 prices upper
  upper_holds None none = none
  upper_holds (Some upper) is = is.upper

  -- a bound by the run holds by its evidence
  lower_holds : (bounds : CostBounds) → AreCostBounds input y y0 prices bounds → LowerHolds input y y0 prices bounds.lower
  lower_holds bounds given = (given.lower.listed, given.lower.lists, given.lower.is_bound.value)

  -- what shows that nothing has to be spent is not withheld
  not_withheld : (inputs : ℕ) (bound : Bound) → ShowsNothing inputs bound → withheld_bound bound ≡ 0
  not_withheld inputs (Shown value pair) shows = refl
  not_withheld inputs (Wide step) shows = absurd shows

-- the same bound over the one list of the observations that made so much or less
pub lower_over : (input : TableInput) (y : ℕ → ℕ) (y0 : ℕ) (prices : ℕ → ℕ) (listed : List ℕ) → ListsNotAbove input y y0 listed → (stated found : Bound)
    → IsFoundBound (BoundHolds (least_cost_program input prices listed) (spending input.goods prices)) stated found → IsFoundBound (LowerHolds input y y0 prices) stated found
lower_over input y y0 prices listed lists stated found is = record {
  from_stated = is.from_stated;
  holds = λ h. (listed, lists, is.holds (subst (λ (xs : List ℕ). BoundHolds (least_cost_program input prices xs) (spending input.goods prices) stated) (enumeration_is_one input.n (λ t. y t ≤ y0) h.0 listed h.1 lists) h.2));
  fits = is.fits;
}

pub listed : (input : TableInput) (y : ℕ → ℕ) (y0 : ℕ) (list : List ℕ) → input.n ≤ RECORDS → ListsNotAbove input y y0 list → AreListed input.n list
listed input y y0 list few lists = record {
  observed = enumerates_observed input.n (λ t. y t ≤ y0) list lists;
  few = omega (arith, few, enumerates_few input.n (λ t. y t ≤ y0) list lists);
}

-- what the cost axiom's verdict decides
pub held_costs : (tech : Technology) (asked : AskedOutputs) (stated : List CostBounds) → MeetsCost tech → (filled : List CostBounds) → AreFilledCosts tech asked stated filled → AreFilledBounds tech asked stated filled
held_costs tech asked stated meets filled are = record { of_each = λ again. are; none = λ not. absurd (not meets) }

pub broken_costs : (tech : Technology) (asked : AskedOutputs) (stated : List CostBounds) (verdict : Axiom) (first second : ℕ) → verdict ≡ Pair first second → ((verdict ≡ Holds) ↔ MeetsCost tech)
    → ((¬ MeetsCost tech) → stated ≡ []) → AreFilledBounds tech asked stated stated
broken_costs tech asked stated verdict first second is holds none =
    record { of_each = λ meets. absurd (differ first second (sym is ∙ holds.1 meets)); none = none }
  where
    differ : (a b : ℕ) → Pair a b ≡ Holds → ⊥
    differ a b e = cc

module _ (tech : Technology) (minimises : MeetsCost tech) (prices : List ℕ) (new : AreNewPrices (goods_of tech.table) prices) (y0 : ℕ) where
  abbrev input : TableInput
  input = input_of_table tech.table

  pub cost_filled : (stated : CostBounds) → AreCostBounds input (slice_index tech.y) y0 (slice_index prices) stated → (lower : Bound) → IsFoundBound (LowerHolds input (slice_index tech.y) y0 (slice_index prices)) stated.lower lower
      → IsFilledCost tech prices y0 stated (record { upper = stated.upper; lower = lower })
  cost_filled stated given lower is =
      let holds = is.holds (lower_holds input (slice_index tech.y) y0 (slice_index prices) stated given) in
      let proves = holds_proves input (slice_index tech.y) y0 (slice_index prices) lower holds in
      let upper = upper_holds input (slice_index tech.y) y0 (slice_index prices) stated.upper given.upper in
      record {
        upper = refl;
        lower = is.from_stated;
        proves = record { upper = upper; lower = proves };
        accepted = record { upper = upper; lower = holds };
        lower_at_most_upper = lower_at_most input (slice_index tech.y) y0 minimises (slice_index prices) lower stated.upper proves given.upper;
        nothing_below = λ more.
            let shows = nothing_shown input (slice_index tech.y) y0 (slice_index prices) more
            (λ i l. (new.fit i 0 (omega (arith, l, new.one_each))).1) stated.lower given.lower in
            subst (λ (b : Bound). ShowsNothing (goods_of tech.table) b) (sym (is.from_stated.same (not_withheld input (slice_index tech.y) y0 (slice_index prices) (goods_of tech.table) stated.lower shows))) shows;
        producers = bound_producers input (slice_index tech.y) y0 (slice_index prices) lower stated.upper proves given.upper;
      }

pub costs_filled : (tech : Technology) (asked : AskedOutputs) (stated filled : List CostBounds)
    → ArePaired (λ (k : ℕ) (one other : CostBounds). IsFilledCost tech (row_of asked.prices.prices asked.prices.goods k) (slice_index asked.y k) one other) stated filled → AreFilledCosts tech asked stated filled
costs_filled tech asked stated filled are = record { one_each = are.one_each; each = are.each }
