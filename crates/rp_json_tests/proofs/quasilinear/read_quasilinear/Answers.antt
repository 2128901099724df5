use Rattle.std.proofs.Common.{subst}
use Rattle.serde_json.specs.View.{view}
use Rattle.rp_json_entries.specs.Reading.{IsFound}
use Rattle.rp_json_tests.proofs.QuasilinearReads.{Fits_cycle, Fits_values, found_cycle, found_none, found_values, value_cycle, value_values}
use Rattle.rp_json_tests.proofs.quasilinear.read_quasilinear.Goals as goal

pub returns-in-Some : goal.returns-in-Some
returns-in-Some c =
    found_values (view c.args.value.now) _ (subst (IsFound value_values Fits_values (view c.args.value.now)) c.in-Some.is c.in_ok-values.ensures)

pub returns-in-Some-2 : goal.returns-in-Some-2
returns-in-Some-2 c =
    found_cycle (view c.args.value.now) _ (subst (IsFound value_values Fits_values (view c.args.value.now)) c.in-None.is c.in_ok-values.ensures) (subst (IsFound value_cycle Fits_cycle (view c.args.value.now)) c.in-Some-2.is c.in_ok-cycle.ensures)

pub returns-in-None-2 : goal.returns-in-None-2
returns-in-None-2 c =
    found_none (view c.args.value.now) (subst (IsFound value_values Fits_values (view c.args.value.now)) c.in-None.is c.in_ok-values.ensures) (subst (IsFound value_cycle Fits_cycle (view c.args.value.now)) c.in-None-2.is c.in_ok-cycle.ensures)
