-- The lines of the money metric at new prices (after Varian 1982): for each record of them and each observation, what
-- it costs at least and at most to be as well off as there, in the units of the files.
use Rattle.std.specs.Prelude.{◌≡◌, ◌<◌, ◌+◌, ℕ, List, length, slice_index_or}
use Rattle.std.specs.Fmt.{decimal}
use Rattle.rp_evidence.specs.DemandEvidence.{ProvesWelfare}
use Rattle.rp_evidence.specs.Input.{input_of_table}
use Rattle.rp_evidence.specs.declared.demand.WelfarePart.{WelfarePart}
use Rattle.rp_evidence.specs.declared.demand.WelfarePart.TheVariants.{Bounds, NoModel}
use Rattle.rp_people.specs.Says.{SaysWelfare}
use Rattle.rp_table.specs.PriceLists.{PriceList}
use Rattle.rp_table.specs.Rows.{row_of, rows_count}
use Rattle.rp_table.specs.Tables.{Observations, records_of}
use Rattle.rp_bound_rows.specs.Sides.{AreViolated, IsAmountOf, IsSideOf}
use Rattle.rp_bound_rows.specs.declared.line.Line.{Line}
use Rattle.rp_bound_rows.specs.declared.side.Sides.{Sides}

-- what is told by evidence on the money metric, where money has so many places: its bounds, or that the axiom is
-- violated
abbrev pub AreWelfareSides : ℕ → WelfarePart → Sides → Type 0
AreWelfareSides places (Bounds upper at lower) sides =
    IsSideOf places lower sides.lower × IsAmountOf places upper 1 sides.upper
AreWelfareSides places (NoModel walk) sides = AreViolated sides

-- the line of observation t at record i of the new prices, both from 0: that of evidence that proves its verdict on
-- these prices, says of people what such a verdict says, and is given
pub record IsObservationLine (given : Observations → List ℕ → ℕ → WelfarePart → Type 0) (table : Observations)
    (places i : ℕ) (prices : List ℕ) (t : ℕ) (line : Line) : Type 0 where
  pub evidence : WelfarePart
  pub proves : ProvesWelfare (input_of_table table) prices t evidence
  pub says : SaysWelfare (input_of_table table) prices t evidence
  pub is_given : given table prices t evidence
  pub price_is : line.price ≡ i + 1
  pub about_is : line.about ≡ decimal (t + 1)
  pub bounds_are : AreWelfareSides places evidence line.bounds

-- a line for each observation
pub record AreWelfareLinesAt (given : Observations → List ℕ → ℕ → WelfarePart → Type 0) (table : Observations)
    (places i : ℕ) (prices : List ℕ) (lines : List Line) : Type 0 where
  pub one_each : length lines ≡ records_of table
  pub each : (t : ℕ) (d : Line) → t < records_of table
      → IsObservationLine given table places i prices t (slice_index_or lines t d)

-- such lines for each record of the new prices, in order, where money has so many places
pub record AreWelfareLines (given : Observations → List ℕ → ℕ → WelfarePart → Type 0) (table : Observations)
    (places : ℕ) (new : PriceList) (at : List (List Line)) : Type 0 where
  pub one_each : length at ≡ rows_count new.prices new.goods
  pub each : (i : ℕ) (d : List Line) → i < rows_count new.prices new.goods
      → AreWelfareLinesAt given table places i (row_of new.prices new.goods i) (slice_index_or at i d)
