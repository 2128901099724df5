use Rattle.std.proofs.Common.{subst}
use Rattle.serde_json.specs.View.{view}
use Rattle.rp_json_tests.specs.EfficiencyValue.{efficiency_value}
use Rattle.rp_json_indices.specs.ViolationsValue.{violations_value}
use Rattle.rp_json_indices.specs.KeptValue.{kept_value}
use Rattle.rp_json_indices.specs.LevelsValue.{levels_value}
use Rattle.rp_json_indices.specs.StepsValue.{steps_value}
use Rattle.rp_json_indices.specs.PumpValue.{pump_value}
use Rattle.rp_json_indices.specs.QuasilinearLevelValue.{quasilinear_level_value}
use Rattle.rp_json_indices.specs.HomotheticLevelValue.{homothetic_level_value}
use Rattle.rp_json_tests.specs.Limits.{FitsEfficiency}
use Rattle.rp_json_indices.specs.Limits.{FitsViolations, FitsKept, FitsLevels, FitsSteps, FitsPump, FitsQuasilinearLevel, FitsHomotheticLevel}
use Rattle.rp_json_entries.specs.Reading.{IsFound}
use Rattle.rp_json_fit.proofs.FitItemReads.{found_efficiency, found_homothetic_level, found_kept, found_levels, found_pump, found_quasilinear_level, found_steps, found_violations, no_item}
use Rattle.rp_json_fit.proofs.items.read_item.Goals as goal

pub returns-in-Some : goal.returns-in-Some
returns-in-Some c = found_violations (view c.args.value.now) _ (subst (IsFound violations_value FitsViolations (view c.args.value.now)) c.in-Some.is c.in_ok-violations.ensures)

pub returns-in-Some-2 : goal.returns-in-Some-2
returns-in-Some-2 c = found_efficiency (view c.args.value.now) _ (subst (IsFound efficiency_value FitsEfficiency (view c.args.value.now)) c.in-Some-2.is c.in_ok-efficiency.ensures)

pub returns-in-Some-3 : goal.returns-in-Some-3
returns-in-Some-3 c = found_kept (view c.args.value.now) _ (subst (IsFound kept_value FitsKept (view c.args.value.now)) c.in-Some-3.is c.in_ok-kept.ensures)

pub returns-in-Some-4 : goal.returns-in-Some-4
returns-in-Some-4 c = found_levels (view c.args.value.now) _ (subst (IsFound levels_value FitsLevels (view c.args.value.now)) c.in-Some-4.is c.in_ok-levels.ensures)

pub returns-in-Some-5 : goal.returns-in-Some-5
returns-in-Some-5 c = found_steps (view c.args.value.now) _ (subst (IsFound steps_value FitsSteps (view c.args.value.now)) c.in-Some-5.is c.in_ok-steps.ensures)

pub returns-in-Some-6 : goal.returns-in-Some-6
returns-in-Some-6 c = found_pump (view c.args.value.now) _ (subst (IsFound pump_value FitsPump (view c.args.value.now)) c.in-Some-6.is c.in_ok-pump.ensures)

pub returns-in-Some-7 : goal.returns-in-Some-7
returns-in-Some-7 c = found_quasilinear_level (view c.args.value.now) _ (subst (IsFound quasilinear_level_value FitsQuasilinearLevel (view c.args.value.now)) c.in-Some-7.is c.in_ok-quasilinear_level.ensures)

pub returns-in-Some-8 : goal.returns-in-Some-8
returns-in-Some-8 c = found_homothetic_level (view c.args.value.now) _ (subst (IsFound homothetic_level_value FitsHomotheticLevel (view c.args.value.now)) c.in-Some-8.is c.in_ok-homothetic_level.ensures)

pub returns-in-None-8 : goal.returns-in-None-8
returns-in-None-8 c =
    no_item (view c.args.value.now)
    (subst (IsFound violations_value FitsViolations (view c.args.value.now)) c.in-None.is c.in_ok-violations.ensures)
    (subst (IsFound efficiency_value FitsEfficiency (view c.args.value.now)) c.in-None-2.is c.in_ok-efficiency.ensures)
    (subst (IsFound kept_value FitsKept (view c.args.value.now)) c.in-None-3.is c.in_ok-kept.ensures)
    (subst (IsFound levels_value FitsLevels (view c.args.value.now)) c.in-None-4.is c.in_ok-levels.ensures)
    (subst (IsFound steps_value FitsSteps (view c.args.value.now)) c.in-None-5.is c.in_ok-steps.ensures)
    (subst (IsFound pump_value FitsPump (view c.args.value.now)) c.in-None-6.is c.in_ok-pump.ensures)
    (subst (IsFound quasilinear_level_value FitsQuasilinearLevel (view c.args.value.now)) c.in-None-7.is c.in_ok-quasilinear_level.ensures)
    (subst (IsFound homothetic_level_value FitsHomotheticLevel (view c.args.value.now)) c.in-None-8.is c.in_ok-homothetic_level.ensures)
