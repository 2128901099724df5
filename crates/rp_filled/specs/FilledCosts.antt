-- What is withheld of bounds on costs, filled with what is found for it (this project's own).
use Rattle.std.specs.Prelude.{◌≡◌, ◌<◌, ℕ, List, [], length, slice_index, slice_index_or}
use Rattle.rp_cost.specs.AskedOutputs.{AskedOutputs}
use Rattle.rp_cost.specs.Axioms.{MeetsCost}
use Rattle.rp_cost.specs.CostBounds.{AreCostBounds, BoundProducers, BoundsHold, IsAtMostUpper, ProvesCostBounds}
use Rattle.rp_cost.specs.CostBounds.{ShowsNothing}
use Rattle.rp_cost.specs.Technology.{Technology}
use Rattle.rp_cost.specs.declared.bounds.CostBounds.{CostBounds}
use Rattle.rp_evidence.specs.DemandEvidence.{withheld_bound}
use Rattle.rp_evidence.specs.Input.{input_of_table}
use Rattle.rp_producers.specs.OuterSet.{AllMakeMore}
use Rattle.rp_table.specs.Rows.{row_of, rows_count}
use Rattle.rp_table.specs.Tables.{goods_of}
use Rattle.rp_filled.specs.Filled.{IsFilledFrom}

-- Bounds of each asked record as they are given.
pub record AreGivenCosts (tech : Technology) (asked : AskedOutputs) (bounds : List CostBounds) : Type 0 where
  pub one_each : length bounds ≡ rows_count asked.prices.prices asked.prices.goods
  pub each : (k : ℕ) (d : CostBounds) → k < length bounds
      → AreCostBounds (input_of_table tech.table) (slice_index tech.y) (slice_index asked.y k)
      (slice_index (row_of asked.prices.prices asked.prices.goods k)) (slice_index_or bounds k d)

-- The bounds on what the output y costs at new prices with the one from below filled: they are true, the check accepts
-- them, the one from below is at most the one from above, where every observation made more nothing has to be spent, and
-- they bound every producer by whose requirement sets each observation was one of least cost.
pub record IsFilledCost (tech : Technology) (prices : List ℕ) (y : ℕ) (stated filled : CostBounds) : Type 0 where
  pub upper : filled.upper ≡ stated.upper
  pub lower : IsFilledFrom withheld_bound stated.lower filled.lower
  pub proves : ProvesCostBounds (input_of_table tech.table) (slice_index tech.y) y (slice_index prices) filled
  pub accepted : BoundsHold (input_of_table tech.table) (slice_index tech.y) y (slice_index prices) filled
  pub lower_at_most_upper : IsAtMostUpper filled.lower filled.upper
  pub nothing_below : AllMakeMore (input_of_table tech.table) (slice_index tech.y) y
      → ShowsNothing (goods_of tech.table) filled.lower
  pub producers : BoundProducers (input_of_table tech.table) (slice_index tech.y) y (slice_index prices) filled

-- The bounds of each asked record, each from those at its place.
pub record AreFilledCosts (tech : Technology) (asked : AskedOutputs) (stated filled : List CostBounds) : Type 0 where
  pub one_each : length filled ≡ length stated
  pub each : (k : ℕ) (d e : CostBounds) → k < length stated
      → IsFilledCost tech (row_of asked.prices.prices asked.prices.goods k) (slice_index asked.y k)
      (slice_index_or stated k d) (slice_index_or filled k e)

-- Where the technology meets the cost axiom, the bounds of each asked record; where it does not, nothing.
pub record AreFilledBounds (tech : Technology) (asked : AskedOutputs) (stated filled : List CostBounds) : Type 0 where
  pub of_each : MeetsCost tech → AreFilledCosts tech asked stated filled
  pub none : ¬ MeetsCost tech → filled ≡ []
