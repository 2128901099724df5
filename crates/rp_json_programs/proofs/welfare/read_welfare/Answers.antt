use Rattle.std.proofs.Common.{subst}
use Rattle.serde_json.specs.View.{view}
use Rattle.rp_json_entries.specs.Reading.{IsFound}
use Rattle.rp_json_programs.proofs.WelfareReads.{Fits_bounds, Fits_cycle, found_bounds, found_cycle, found_none, value_bounds, value_cycle}
use Rattle.rp_json_programs.proofs.welfare.read_welfare.Goals as goal

pub returns-in-Some : goal.returns-in-Some
returns-in-Some c =
    rw c.bounds.ensures (found_bounds (view c.args.value.now) _ (subst (IsFound value_bounds Fits_bounds (view c.args.value.now)) c.in-Some.is c.in_ok-entries.ensures))

pub returns-in-Some-2 : goal.returns-in-Some-2
returns-in-Some-2 c =
    rw c.no_model.ensures (found_cycle (view c.args.value.now) _ (subst (IsFound value_bounds Fits_bounds (view c.args.value.now)) c.in-None.is c.in_ok-entries.ensures) (subst (IsFound value_cycle Fits_cycle (view c.args.value.now)) c.in-Some-2.is c.in_ok-entries-2.ensures))

pub returns-in-None-2 : goal.returns-in-None-2
returns-in-None-2 c =
    found_none (view c.args.value.now) (subst (IsFound value_bounds Fits_bounds (view c.args.value.now)) c.in-None.is c.in_ok-entries.ensures) (subst (IsFound value_cycle Fits_cycle (view c.args.value.now)) c.in-None-2.is c.in_ok-entries-2.ensures)
