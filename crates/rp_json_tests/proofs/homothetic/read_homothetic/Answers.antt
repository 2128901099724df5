use Rattle.std.proofs.Common.{subst}
use Rattle.serde_json.specs.View.{view}
use Rattle.rp_json_entries.specs.Reading.{IsFound}
use Rattle.rp_json_tests.proofs.HomotheticReads.{Fits_cycle, Fits_values, Fits_wide, found_cycle, found_none, found_values, found_wide, value_cycle, value_values, value_wide}
use Rattle.rp_json_tests.proofs.homothetic.read_homothetic.Goals as goal

pub returns-in-Some : goal.returns-in-Some
returns-in-Some c =
    found_values (view c.args.value.now) _ (subst (IsFound value_values Fits_values (view c.args.value.now)) c.in-Some.is c.in_ok-values.ensures)

pub returns-in-Some-2 : goal.returns-in-Some-2
returns-in-Some-2 c =
    rw c.cycle.ensures (found_cycle (view c.args.value.now) _ (subst (IsFound value_values Fits_values (view c.args.value.now)) c.in-None.is c.in_ok-values.ensures) (subst (IsFound value_cycle Fits_cycle (view c.args.value.now)) c.in-Some-2.is c.in_ok-entries.ensures))

pub returns-in-Some-3 : goal.returns-in-Some-3
returns-in-Some-3 c =
    found_wide (view c.args.value.now) _ (subst (IsFound value_values Fits_values (view c.args.value.now)) c.in-None.is c.in_ok-values.ensures) (subst (IsFound value_cycle Fits_cycle (view c.args.value.now)) c.in-None-2.is c.in_ok-entries.ensures) (subst (IsFound value_wide Fits_wide (view c.args.value.now)) c.in-Some-3.is c.in_ok-steps.ensures)

pub returns-in-None-3 : goal.returns-in-None-3
returns-in-None-3 c =
    found_none (view c.args.value.now) (subst (IsFound value_values Fits_values (view c.args.value.now)) c.in-None.is c.in_ok-values.ensures) (subst (IsFound value_cycle Fits_cycle (view c.args.value.now)) c.in-None-2.is c.in_ok-entries.ensures) (subst (IsFound value_wide Fits_wide (view c.args.value.now)) c.in-None-3.is c.in_ok-steps.ensures)
