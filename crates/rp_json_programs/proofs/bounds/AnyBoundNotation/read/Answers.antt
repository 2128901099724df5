use Rattle.std.proofs.Common.{subst}
use Rattle.serde_json.specs.View.{view}
use Rattle.rp_json_entries.specs.Reading.{IsFound}
use Rattle.rp_json_programs.proofs.BoundReads.{Fits_shown, Fits_wide, found_none, found_shown, found_wide, value_shown, value_wide}
use Rattle.rp_json_programs.proofs.bounds.AnyBoundNotation.read.Goals as goal

pub returns-in-Some : goal.returns-in-Some
returns-in-Some c =
    rw c.bound_with_pair.ensures (found_shown (view c.args.value.now) _ (subst (IsFound value_shown Fits_shown (view c.args.value.now)) c.in-Some.is c.in_ok-entries.ensures))

pub returns-in-Some-2 : goal.returns-in-Some-2
returns-in-Some-2 c =
    found_wide (view c.args.value.now) _ (subst (IsFound value_shown Fits_shown (view c.args.value.now)) c.in-None.is c.in_ok-entries.ensures) (subst (IsFound value_wide Fits_wide (view c.args.value.now)) c.in-Some-2.is c.in_ok-step.ensures)

pub returns-in-None-2 : goal.returns-in-None-2
returns-in-None-2 c =
    found_none (view c.args.value.now) (subst (IsFound value_shown Fits_shown (view c.args.value.now)) c.in-None.is c.in_ok-entries.ensures) (subst (IsFound value_wide Fits_wide (view c.args.value.now)) c.in-None-2.is c.in_ok-step.ensures)
