-- The limits within which an item on goodness of fit is read back (this program's own format).
use Rattle.rp_fit.specs.declared.item.FitItem.{FitItem}
use Rattle.rp_fit.specs.declared.item.FitItem.TheVariants.{Violations as ViolationsItem, Efficiency as EfficiencyItem, Kept as KeptItem, Levels as LevelsItem, Steps as StepsItem, Pump as PumpItem, QuasilinearLevel as QuasilinearLevelItem, HomotheticLevel as HomotheticLevelItem}
use Rattle.rp_json_tests.specs.Limits.{FitsEfficiency}
use Rattle.rp_json_indices.specs.Limits.{FitsViolations, FitsKept, FitsLevels, FitsSteps, FitsPump, FitsQuasilinearLevel, FitsHomotheticLevel}

abbrev pub FitsItem : FitItem → Type 0
FitsItem (ViolationsItem part) = FitsViolations part
FitsItem (EfficiencyItem part) = FitsEfficiency part
FitsItem (KeptItem part) = FitsKept part
FitsItem (LevelsItem part) = FitsLevels part
FitsItem (StepsItem part) = FitsSteps part
FitsItem (PumpItem part) = FitsPump part
FitsItem (QuasilinearLevelItem part) = FitsQuasilinearLevel part
FitsItem (HomotheticLevelItem part) = FitsHomotheticLevel part
