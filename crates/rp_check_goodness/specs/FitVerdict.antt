-- What is answered of a certificate on goodness of fit: it is accepted where no item fails, else the first item that does
-- is named (this program's own).
use Rattle.std.specs.Prelude.{◌≡◌, ◌+◌, ◌<◌, ℕ, List, length, slice_index_or, Ok, Err}
use Rattle.rp_check.specs.declared.verdict.Verdict.{Verdict}
use Rattle.rp_check.specs.declared.verdict.Verdict.TheVariants.{Accepted, Rejected}
use Rattle.rp_check_fit.specs.KeptFailure.{KeptFails}
use Rattle.rp_check_fit.specs.ViolationsFailure.{ViolationsFail}
use Rattle.rp_check_levels.specs.LevelsFailure.{LevelsFail}
use Rattle.rp_check_levels.specs.StepsFailure.{StepsFail}
use Rattle.rp_check_walk_levels.specs.HomotheticLevelFailure.{HomotheticLevelFails}
use Rattle.rp_check_walk_levels.specs.PumpFailure.{PumpFails}
use Rattle.rp_check_walk_levels.specs.QuasilinearLevelFailure.{QuasilinearLevelFails}
use Rattle.rp_clauses.specs.EfficiencyFailure.{EfficiencyFails}
use Rattle.rp_evidence.specs.Clauses.{Finding, cap}
use Rattle.rp_evidence.specs.Input.{TableInput}
use Rattle.rp_fit.specs.declared.item.FitItem.{FitItem}
use Rattle.rp_fit.specs.declared.item.FitItem.TheVariants.{Efficiency, HomotheticLevel, Kept, Levels, Pump, QuasilinearLevel, Steps, Violations}

-- What is found wrong with an item, by its kind.
abbrev pub FitItemFails : TableInput → FitItem → Finding
FitItemFails input (Violations part) found = ViolationsFail input part found
FitItemFails input (Efficiency evidence) found = EfficiencyFails input.n input.cost evidence found
FitItemFails input (Kept part) found = KeptFails input.n input.cost part found
FitItemFails input (Levels part) found = LevelsFail input.n input.cost part found
FitItemFails input (Steps part) found = StepsFail input.n input.cost part found
FitItemFails input (Pump part) found = PumpFails input.n input.cost part found
FitItemFails input (QuasilinearLevel part) found = QuasilinearLevelFails input.n input.cost part found
FitItemFails input (HomotheticLevel part) found = HomotheticLevelFails input.n input.cost part found

-- What is found wrong with the k-th item, from 0.
abbrev pub FitItemFailsAt : TableInput → List FitItem → ℕ → Finding
FitItemFailsAt input items k found = (other : FitItem) → FitItemFails input (slice_index_or items k other) found

-- The verdict on these items. They are counted from 1.
abbrev pub IsFitVerdict : TableInput → List FitItem → Verdict → Type 0
IsFitVerdict input items Accepted = (k : ℕ) → k < length items → FitItemFailsAt input items k (Ok tt)
IsFitVerdict input items (Rejected item reason place) =
    (k : ℕ) × (k < length items) × (item ≡ cap (k + 1))
    × FitItemFailsAt input items k (Err (record { reason = reason; place = place }))
    × ((j : ℕ) → j < k → FitItemFailsAt input items j (Ok tt))
