-- Bounds at new prices with what is found where one of the stated ones is withheld (this program's own).
use Rattle.std.specs.Prelude.{ℕ, List}
use Rattle.rp_evidence.specs.declared.demand.DemandPart.{DemandPart}
use Rattle.rp_evidence.specs.declared.demand.WelfarePart.{WelfarePart}
use Rattle.rp_filled.specs.Filled.{IsFilledDemand, IsFilledWelfare}
use Rattle.rp_table.specs.Tables.{Observations}
use Rattle.rp_bound_rows.specs.AsStated.{demand_as_stated, welfare_as_stated}

-- the evidence on demand that is stated, each bound of it as it is where it is given; where it is withheld another one
-- that is given, or still that
pub record IsGivenDemand (table : Observations) (prices : List ℕ) (m : ℕ) (found : DemandPart) : Type 0 where
  pub stated : DemandPart
  pub is_stated : demand_as_stated table prices m stated
  pub filled : IsFilledDemand stated found

-- the same on the money metric of observation t, of which only the lower bound is ever withheld
pub record IsGivenWelfare (table : Observations) (prices : List ℕ) (t : ℕ) (found : WelfarePart) : Type 0 where
  pub stated : WelfarePart
  pub is_stated : welfare_as_stated table prices t stated
  pub filled : IsFilledWelfare stated found
