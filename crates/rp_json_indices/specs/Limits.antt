-- The limits within which evidence on goodness of fit is read back (this program's own format).
use Rattle.std.specs.Prelude.{All}
use Rattle.rp_num.specs.Spelled.{FitsSum, FitsWhole}
use Rattle.rp_fit.specs.declared.violations.ViolationsPart.{ViolationsPart}
use Rattle.rp_fit.specs.declared.kept.KeptPart.{KeptPart}
use Rattle.rp_fit.specs.declared.levels.LevelsPart.{LevelsPart}
use Rattle.rp_fit.specs.declared.steps.StepsPart.{StepsPart}
use Rattle.rp_fit.specs.declared.pump.PumpPart.{PumpPart}
use Rattle.rp_fit.specs.declared.quasilinear_level.QuasilinearLevelPart.{QuasilinearLevelPart}
use Rattle.rp_fit.specs.declared.homothetic_level.HomotheticLevelPart.{HomotheticLevelPart}
use Rattle.rp_fit.specs.declared.kept.Group.{Group}
use Rattle.rp_fit.specs.declared.weighted.WeightedWalk.{WeightedWalk}
use Rattle.rp_json_entries.specs.Reading.{FitObservations, FitsCount, FitsLong}

abbrev pub FitsGroup : Group → Type 0
FitsGroup group = FitObservations group.members × FitsCount group.weight

abbrev pub FitsCycle : WeightedWalk → Type 0
FitsCycle each = FitObservations each.walk × FitsLong each.weight

abbrev pub FitsViolations : ViolationsPart → Type 0
FitsViolations part = FitsCount part.garp × FitsCount part.observations × FitsCount part.sarp × FitsCount part.warp × FitsCount part.weak_garp

abbrev pub FitsKept : KeptPart → Type 0
FitsKept part = FitsCount part.den × All FitsGroup part.groups × FitObservations part.kept × FitsCount part.most × All FitsCount part.ranks

abbrev pub FitsLevels : LevelsPart → Type 0
FitsLevels part = FitObservations part.at × All FitsCycle part.walks × FitsLong part.den × All FitsCount part.ranks

abbrev pub FitsSteps : StepsPart → Type 0
FitsSteps part = FitsWhole part.cost × All FitsCycle part.walks × FitsLong part.den × All FitsCount part.ranks × All FitObservations part.taken

abbrev pub FitsPump : PumpPart → Type 0
FitsPump part = FitObservations part.cycle × FitsLong part.den × FitsLong part.num × All FitsSum part.values

abbrev pub FitsQuasilinearLevel : QuasilinearLevelPart → Type 0
FitsQuasilinearLevel part = FitObservations part.walk × FitsLong part.den × FitsLong part.num × All FitsSum part.values

abbrev pub FitsHomotheticLevel : HomotheticLevelPart → Type 0
FitsHomotheticLevel part = FitObservations part.walk × FitsLong part.high × FitsLong part.low × All FitsLong part.values
