-- The lines of demand at new prices (Varian 1982): for each record of them and each good, what the infimum and the
-- supremum of the good are over the demands that keep the axiom, in the units of the quantities' file.
use Rattle.std.specs.Prelude.{◌≡◌, ◌<◌, ◌+◌, ℕ, List, Some, length, slice_get, slice_index, slice_index_or}
use Rattle.rp_evidence.specs.DemandEvidence.{ProvesDemand}
use Rattle.rp_evidence.specs.Input.{input_of_table}
use Rattle.rp_evidence.specs.declared.demand.DemandPart.{DemandPart}
use Rattle.rp_evidence.specs.declared.demand.DemandPart.TheVariants.{Bounds, NoModel}
use Rattle.rp_evidence.specs.declared.demand.GoodBounds.{GoodBounds}
use Rattle.rp_people.specs.Says.{SaysDemand}
use Rattle.rp_table.specs.PriceLists.{PriceList}
use Rattle.rp_table.specs.Rows.{row_of, rows_count}
use Rattle.rp_table.specs.Tables.{Observations, goods_of}
use Rattle.rp_bound_rows.specs.Sides.{AreViolated, IsSideOf}
use Rattle.rp_bound_rows.specs.declared.line.Line.{Line}
use Rattle.rp_bound_rows.specs.declared.side.Sides.{Sides}

-- new prices of the table's goods, and so much to spend at each record
pub record IsSpentOn (table : Observations) (new : PriceList) : Type 0 where
  pub goods : new.goods ≡ goods_of table
  pub spent : length new.m ≡ rows_count new.prices new.goods

-- what is told of the bounds of a good, of which quantities have so many places
pub record AreSidesOf (places : ℕ) (bounds : GoodBounds) (sides : Sides) : Type 0 where
  pub lower : IsSideOf places bounds.lower sides.lower
  pub upper : IsSideOf places bounds.upper sides.upper

-- what is told of good g by evidence on demand: its bounds, or that the axiom is violated
abbrev pub AreGoodSides : ℕ → ℕ → DemandPart → Sides → Type 0
AreGoodSides places g (Bounds below strict inner goods) sides =
    (d : GoodBounds) → AreSidesOf places (slice_index_or goods g d) sides
AreGoodSides places g (NoModel walk) sides = AreViolated sides

-- the line of good g at record i of the new prices, from 0, by evidence on them
pub record IsGoodLine (table : Observations) (i : ℕ) (part : DemandPart) (g : ℕ) (line : Line) : Type 0 where
  pub price_is : line.price ≡ i + 1
  pub about_is : slice_get table.names g ≡ Some line.about
  pub bounds_are : AreGoodSides table.quantity_places g part line.bounds

-- a line for each good
pub record AreGoodLines (table : Observations) (i : ℕ) (part : DemandPart) (lines : List Line) : Type 0 where
  pub one_each : length lines ≡ goods_of table
  pub each : (g : ℕ) (d : Line) → g < goods_of table → IsGoodLine table i part g (slice_index_or lines g d)

-- the lines at record i of the new prices: those of evidence that proves its verdict on these prices with so much to
-- spend, says of people what such a verdict says, and is given
pub record AreDemandLinesAt (given : Observations → List ℕ → ℕ → DemandPart → Type 0) (table : Observations) (i : ℕ)
    (prices : List ℕ) (m : ℕ) (lines : List Line) : Type 0 where
  pub evidence : DemandPart
  pub proves : ProvesDemand (input_of_table table) prices m evidence
  pub says : SaysDemand (input_of_table table) prices m evidence
  pub is_given : given table prices m evidence
  pub lines_are : AreGoodLines table i evidence lines

-- such lines for each record of the new prices, in order
pub record AreDemandLines (given : Observations → List ℕ → ℕ → DemandPart → Type 0) (table : Observations)
    (new : PriceList) (at : List (List Line)) : Type 0 where
  pub one_each : length at ≡ rows_count new.prices new.goods
  pub each : (i : ℕ) (d : List Line) → i < rows_count new.prices new.goods
      → AreDemandLinesAt given table i (row_of new.prices new.goods i) (slice_index new.m i) (slice_index_or at i d)
