use Rattle.std.proofs.Common.{subst}
use Rattle.serde_json.specs.View.{view}
use Rattle.rp_json_entries.specs.Reading.{IsFound}
use Rattle.rp_json_indices.proofs.GroupReads.{Fits_made, found_cycle, found_none, found_pairs, value_cycle, value_pairs}
use Rattle.rp_json_indices.proofs.groups.GroupObjectNotation.read.Goals as goal

pub returns-in-Some : goal.returns-in-Some
returns-in-Some c =
    rw c.pairs.ensures (found_pairs (view c.args.value.now) _ (subst (IsFound value_pairs Fits_made (view c.args.value.now)) c.in-Some.is c.in_ok-entries.ensures))

pub returns-in-Some-2 : goal.returns-in-Some-2
returns-in-Some-2 c =
    rw c.cycle.ensures (found_cycle (view c.args.value.now) _ (subst (IsFound value_pairs Fits_made (view c.args.value.now)) c.in-None.is c.in_ok-entries.ensures)
    (subst (IsFound value_cycle Fits_made (view c.args.value.now)) c.in-Some-2.is c.in_ok-entries-2.ensures))

pub returns-in-None-2 : goal.returns-in-None-2
returns-in-None-2 c =
    found_none (view c.args.value.now) (subst (IsFound value_pairs Fits_made (view c.args.value.now)) c.in-None.is c.in_ok-entries.ensures)
    (subst (IsFound value_cycle Fits_made (view c.args.value.now)) c.in-None-2.is c.in_ok-entries-2.ensures)
