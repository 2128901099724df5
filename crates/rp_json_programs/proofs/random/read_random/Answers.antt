use Rattle.std.proofs.Common.{subst}
use Rattle.serde_json.specs.View.{view}
use Rattle.rp_json_entries.specs.Reading.{IsFound}
use Rattle.rp_json_programs.proofs.RandomReads.{Fits_mixture, Fits_violated, Fits_wide, found_mixture, found_none, found_violated, found_wide, value_mixture, value_violated, value_wide}
use Rattle.rp_json_programs.proofs.random.read_random.Goals as goal

pub returns-in-Some : goal.returns-in-Some
returns-in-Some c =
    rw c.mixture.ensures (found_mixture (view c.args.value.now) _ (subst (IsFound value_mixture Fits_mixture (view c.args.value.now)) c.in-Some.is c.in_ok-entries.ensures))

pub returns-in-Some-2 : goal.returns-in-Some-2
returns-in-Some-2 c =
    rw c.violated.ensures (found_violated (view c.args.value.now) _ (subst (IsFound value_mixture Fits_mixture (view c.args.value.now)) c.in-None.is c.in_ok-entries.ensures) (subst (IsFound value_violated Fits_violated (view c.args.value.now)) c.in-Some-2.is c.in_ok-entries-2.ensures))

pub returns-in-Some-3 : goal.returns-in-Some-3
returns-in-Some-3 c =
    found_wide (view c.args.value.now) _ (subst (IsFound value_mixture Fits_mixture (view c.args.value.now)) c.in-None.is c.in_ok-entries.ensures) (subst (IsFound value_violated Fits_violated (view c.args.value.now)) c.in-None-2.is c.in_ok-entries-2.ensures) (subst (IsFound value_wide Fits_wide (view c.args.value.now)) c.in-Some-3.is c.in_ok-total.ensures)

pub returns-in-None-3 : goal.returns-in-None-3
returns-in-None-3 c =
    found_none (view c.args.value.now) (subst (IsFound value_mixture Fits_mixture (view c.args.value.now)) c.in-None.is c.in_ok-entries.ensures) (subst (IsFound value_violated Fits_violated (view c.args.value.now)) c.in-None-2.is c.in_ok-entries-2.ensures) (subst (IsFound value_wide Fits_wide (view c.args.value.now)) c.in-None-3.is c.in_ok-total.ensures)
