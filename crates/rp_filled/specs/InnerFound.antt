-- What is asked of what is found for a value; words that only the crate's own functions and their proofs need.
use Rattle.std.specs.Prelude.{◌≡◌, ◌<◌, ◌≤◌, ℕ, All, Bool, List, Ok, length, slice_index_or}
use Rattle.rp_check.specs.DemandFailure.{DemandFails}
use Rattle.rp_check.specs.ItemFailure.{ItemFails, shows_garp}
use Rattle.rp_check.specs.WelfareFailure.{WelfareFails}
use Rattle.rp_clauses.specs.HomotheticFailure.{HomotheticFails}
use Rattle.rp_evidence.specs.BoundEvidence.{BoundHolds}
use Rattle.rp_evidence.specs.Demand.{BudgetInput}
use Rattle.rp_evidence.specs.DemandEvidence.{withheld_bound}
use Rattle.rp_evidence.specs.DemandPrograms.{lower_program, upper_program}
use Rattle.rp_evidence.specs.Homothetic.{withheld_homothetic}
use Rattle.rp_evidence.specs.Input.{TableInput}
use Rattle.rp_evidence.specs.declared.certificate.Item.{Item}
use Rattle.rp_evidence.specs.declared.certificate.Kind.TheVariants.{Table}
use Rattle.rp_evidence.specs.declared.demand.Bound.{Bound}
use Rattle.rp_evidence.specs.declared.demand.DemandPart.{DemandPart}
use Rattle.rp_evidence.specs.declared.demand.DemandPart.TheVariants.{Bounds, NoModel}
use Rattle.rp_evidence.specs.declared.demand.GoodBounds.{GoodBounds}
use Rattle.rp_evidence.specs.declared.demand.WelfarePart.{WelfarePart}
use Rattle.rp_evidence.specs.declared.homothetic.Homothetic.{Homothetic}
use Rattle.rp_json.specs.Denoted.{FitsKind}
use Rattle.rp_json_programs.specs.Limits.{FitsBound, FitsDemand, FitsWelfare}
use Rattle.rp_json_tests.specs.Limits.{FitsHomothetic}
use Rattle.rp_limits.specs.declared.table.TheConstants.{RECORDS}
use Rattle.rp_filled.specs.Filled.{IsFilledDemand, IsFilledFrom, IsFilledItem, IsFilledWelfare}

-- As many values, each from the one at its place, which is told.
pub record ArePaired {A : Type 0} (IsFrom : ℕ → A → A → Type 0) (stated found : List A) : Type 0 where
  pub one_each : length found ≡ length stated
  pub each : (k : ℕ) (d e : A) → k < length stated → IsFrom k (slice_index_or stated k d) (slice_index_or found k e)

-- Observations of a table, no more of them than a table may have.
pub record AreListed (n : ℕ) (list : List ℕ) : Type 0 where
  pub observed : All (λ t. t < n) list
  pub few : length list ≤ RECORDS

-- A bound that holds and can be read back where the stated one does and can.
pub record IsFoundBound (Holds : Bound → Type 0) (stated found : Bound) : Type 0 where
  pub from_stated : IsFilledFrom withheld_bound stated found
  pub holds : Holds stated → Holds found
  pub fits : FitsBound stated → FitsBound found

-- Likewise both bounds of good g.
pub record IsFoundGood (input : TableInput) (budget : BudgetInput) (below : List ℕ) (g : ℕ) (stated found : GoodBounds)
    : Type 0 where
  pub lower : IsFoundBound (BoundHolds (lower_program input budget below g) (λ x. x g)) stated.lower found.lower
  pub upper : IsFoundBound (BoundHolds (upper_program input budget below g) (λ x. x g)) stated.upper found.upper

-- Evidence that passes the checker and can be read back where the stated one does and can: of the homothetic test, of
-- demand, of welfare, and of any item.
pub record IsFoundHomothetic (input : TableInput) (stated found : Homothetic) : Type 0 where
  pub from_stated : IsFilledFrom withheld_homothetic stated found
  pub passes : HomotheticFails input.n input.cost stated (Ok tt) → HomotheticFails input.n input.cost found (Ok tt)
  pub fits : FitsHomothetic stated → FitsHomothetic found

pub record IsFoundDemand (input : TableInput) (prices : List ℕ) (m : ℕ) (stated found : DemandPart) : Type 0 where
  pub from_stated : IsFilledDemand stated found
  pub passes : (garp_shown : Bool) → DemandFails input garp_shown prices m stated (Ok tt)
      → DemandFails input garp_shown prices m found (Ok tt)
  pub fits : FitsDemand prices m stated → FitsDemand prices m found

pub record IsFoundWelfare (input : TableInput) (prices : List ℕ) (t : ℕ) (stated found : WelfarePart) : Type 0 where
  pub from_stated : IsFilledWelfare stated found
  pub passes : (garp_shown : Bool) → WelfareFails input garp_shown prices t stated (Ok tt)
      → WelfareFails input garp_shown prices t found (Ok tt)
  pub fits : FitsWelfare prices t stated → FitsWelfare prices t found

pub record IsFoundItem (input : TableInput) (stated found : Item) : Type 0 where
  pub from_stated : IsFilledItem stated found
  pub shows : shows_garp found ≡ shows_garp stated
  pub passes : (garp_shown : Bool) → ItemFails input garp_shown stated (Ok tt)
      → ItemFails input garp_shown found (Ok tt)
  pub fits : FitsKind Table stated → FitsKind Table found

-- The observations below a new budget are listed, and there are bounds of each good.
abbrev pub HasLists : TableInput → DemandPart → Type 0
HasLists input (Bounds below strict inner goods) = AreListed input.n below × (length goods ≡ input.goods)
HasLists input (NoModel walk) = Unit {0}

-- Nothing is found wrong with an item, by what is shown before it.
abbrev pub ItemPasses : TableInput → Item → Type 0
ItemPasses input item = (garp_shown : Bool) × ItemFails input garp_shown item (Ok tt)

-- It is so of each item.
abbrev pub ItemsPass : TableInput → List Item → Type 0
ItemsPass input items = (k : ℕ) (d : Item) → k < length items → ItemPasses input (slice_index_or items k d)
