-- What `cost` prints: the report of the axioms of production on a technology, and of bounds on what outputs cost at new
-- input prices (Varian 1984), with their evidence.
use Rattle.std.specs.Prelude.{◌≡◌, ◌<◌, ℕ, List, [], length, slice_index, slice_index_or}
use Rattle.rp_evidence.specs.Input.{input_of_table}
use Rattle.rp_table.specs.Rows.{row_of, rows_count}
use Rattle.rp_table.specs.Tables.{goods_of}
use Rattle.rp_cost.specs.AskedOutputs.{AskedOutputs}
use Rattle.rp_cost.specs.Axioms.{MeetsCost}
use Rattle.rp_cost.specs.CostBounds.{AreCostBounds, BoundProducers, BoundsHold, IsAtMostUpper, ProvesCostBounds}
use Rattle.rp_cost.specs.CostBounds.{ShowsNothing}
use Rattle.rp_producers.specs.OuterSet.{AllMakeMore, MadeIsOuter}
use Rattle.rp_cost.specs.Technology.{Technology}
use Rattle.rp_cost.specs.declared.bounds.CostBounds.{CostBounds}
use Rattle.rp_answers.specs.Printed.{Printed, as_stated}

-- the bounds on what the output y costs at new prices: they are true and as they are given, the check accepts them, and
-- the one from below is at most the one from above; what made y or more lies in the outer set, and where every
-- observation made more, nothing has to be spent; and both bound every producer by whose requirement sets each observation
-- was one of least cost
pub record IsCostAnswer (tech : Technology) (prices : List ℕ) (y : ℕ) (bounds : CostBounds) : Type 0 where
  pub proves : ProvesCostBounds (input_of_table tech.table) (slice_index tech.y) y (slice_index prices) bounds
  pub given : AreCostBounds (input_of_table tech.table) (slice_index tech.y) y (slice_index prices) bounds
  pub accepted : BoundsHold (input_of_table tech.table) (slice_index tech.y) y (slice_index prices) bounds
  pub made_is_outer : MadeIsOuter (input_of_table tech.table) (slice_index tech.y) y
  pub lower_at_most_upper : IsAtMostUpper bounds.lower bounds.upper
  pub nothing_below : AllMakeMore (input_of_table tech.table) (slice_index tech.y) y
      → ShowsNothing (goods_of tech.table) bounds.lower
  pub producers : BoundProducers (input_of_table tech.table) (slice_index tech.y) y (slice_index prices) bounds

-- bounds of each of the first so many asked records, in their order
pub record AreBoundsOfFirst (tech : Technology) (asked : AskedOutputs) (count : ℕ) (bounds : List CostBounds)
    : Type 0 where
  pub one_each : length bounds ≡ count
  pub each : (k : ℕ) (d : CostBounds) → k < count
      → IsCostAnswer tech (row_of asked.prices.prices asked.prices.goods k) (slice_index asked.y k)
      (slice_index_or bounds k d)

-- bounds of each asked record
abbrev pub AreBoundsOfEach : Technology → AskedOutputs → List CostBounds → Type 0
AreBoundsOfEach tech asked = AreBoundsOfFirst tech asked (rows_count asked.prices.prices asked.prices.goods)

-- where the technology meets the cost axiom, bounds of each asked record; where it does not, nothing
pub record AreBoundsUnder (tech : Technology) (asked : AskedOutputs) (bounds : List CostBounds) : Type 0 where
  pub of_each : MeetsCost tech → AreBoundsOfEach tech asked bounds
  pub none : ¬ MeetsCost tech → bounds ≡ []

-- the text is what an edition of the program prints of the technology with these bounds
pub record IsCostTextBy (printed : Printed) (tech : Technology) (asked : AskedOutputs) (text : List ℕ) : Type 0 where
  pub bounds : List CostBounds
  pub bounds_given : AreBoundsUnder tech asked bounds
  pub report : printed.of_costs tech asked bounds text

-- the text is the report of the technology with these bounds as they stand
abbrev pub IsCostText : Technology → AskedOutputs → List ℕ → Type 0
IsCostText = IsCostTextBy as_stated
