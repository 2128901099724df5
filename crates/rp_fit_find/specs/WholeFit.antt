-- Which items a whole certificate on goodness of fit has, in their order (this program's own order).
use Rattle.std.specs.Prelude.{◌≡◌, ◌≢◌, ◌↔◌, ◌++◌, ◌∷◌, [], List, Option, None, Some}
use Rattle.rp_evidence.specs.declared.efficiency.Efficiency.{Efficiency}
use Rattle.rp_fit.specs.declared.homothetic_level.HomotheticLevelPart.{HomotheticLevelPart}
use Rattle.rp_fit.specs.declared.item.FitItem.{FitItem}
use Rattle.rp_fit.specs.declared.item.FitItem.TheVariants as item
use Rattle.rp_fit.specs.declared.kept.KeptPart.{KeptPart}
use Rattle.rp_fit.specs.declared.levels.Lack.TheVariants.{Mean, Squares}
use Rattle.rp_fit.specs.declared.levels.LevelsPart.{LevelsPart}
use Rattle.rp_fit.specs.declared.pump.PumpPart.{PumpPart}
use Rattle.rp_fit.specs.declared.quasilinear_level.QuasilinearLevelPart.{QuasilinearLevelPart}
use Rattle.rp_fit.specs.declared.steps.StepsPart.{StepsPart}
use Rattle.rp_fit.specs.declared.violations.ViolationsPart.{ViolationsPart}
use Rattle.rp_table.specs.Tables.{Observations}

-- The item of an index that may be left out.
abbrev pub if_given : {Part : Type 0} → (Part → FitItem) → Option Part → List FitItem
if_given item_of None = []
if_given item_of (Some part) = item_of part ∷ []

-- Numbers of violations, efficiency, kept observations, levels by the mean and by squares, and steps are always there. The
-- money pump is left out exactly where observations have levels of their own. The quasilinear and the homothetic level
-- may be left out.
pub record IsWholeFit (table : Observations) (items : List FitItem) : Type 0 where
  pub violations : ViolationsPart
  pub efficiency : Efficiency
  pub kept : KeptPart
  pub mean : LevelsPart
  pub squares : LevelsPart
  pub steps : StepsPart
  pub pump : Option PumpPart
  pub quasilinear : Option QuasilinearLevelPart
  pub homothetic : Option HomotheticLevelPart
  pub listed : items ≡ item.Violations violations ∷ item.Efficiency efficiency ∷ item.Kept kept
      ∷ item.Levels mean ∷ item.Levels squares ∷ item.Steps steps
      ∷ (if_given item.Pump pump ++ if_given item.QuasilinearLevel quasilinear
      ++ if_given item.HomotheticLevel homothetic)
  pub by_mean : mean.lack ≡ Mean
  pub by_squares : squares.lack ≡ Squares
  pub pump_left_out : (pump ≡ None) ↔ (table.levels ≢ [])
