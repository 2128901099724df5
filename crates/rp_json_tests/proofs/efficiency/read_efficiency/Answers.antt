use Rattle.std.proofs.Common.{subst}
use Rattle.serde_json.specs.View.{view}
use Rattle.rp_json_entries.specs.Reading.{IsFound}
use Rattle.rp_json_tests.proofs.EfficiencyReads.{Fits_attained, Fits_missed, found_attained, found_missed, found_none, value_attained, value_missed}
use Rattle.rp_json_tests.proofs.efficiency.read_efficiency.Goals as goal

pub returns-in-Some : goal.returns-in-Some
returns-in-Some c =
    rw c.attained.ensures (found_attained (view c.args.value.now) _ (subst (IsFound value_attained Fits_attained (view c.args.value.now)) c.in-Some.is c.in_ok-entries.ensures))

pub returns-in-Some-2 : goal.returns-in-Some-2
returns-in-Some-2 c =
    rw c.missed.ensures (found_missed (view c.args.value.now) _ (subst (IsFound value_attained Fits_attained (view c.args.value.now)) c.in-None.is c.in_ok-entries.ensures)
    (subst (IsFound value_missed Fits_missed (view c.args.value.now)) c.in-Some-2.is c.in_ok-entries-2.ensures))

pub returns-in-None-2 : goal.returns-in-None-2
returns-in-None-2 c =
    found_none (view c.args.value.now) (subst (IsFound value_attained Fits_attained (view c.args.value.now)) c.in-None.is c.in_ok-entries.ensures)
    (subst (IsFound value_missed Fits_missed (view c.args.value.now)) c.in-None-2.is c.in_ok-entries-2.ensures)
