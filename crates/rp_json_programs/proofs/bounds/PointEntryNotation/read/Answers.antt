use Rattle.std.proofs.Common.{subst}
use Rattle.serde_json.specs.View.{view}
use Rattle.rp_json_entries.specs.Reading.{IsFound}
use Rattle.rp_json_programs.proofs.EntryReads.{Fits_entry, found_entry, found_none, value_entry}
use Rattle.rp_json_programs.proofs.bounds.PointEntryNotation.read.Goals as goal

pub returns-in-Some : goal.returns-in-Some
returns-in-Some c =
    found_entry (view c.args.value.now) _ (subst (IsFound value_entry Fits_entry (view c.args.value.now)) c.in-Some.is c.in_ok-at.ensures)

pub returns-in-None : goal.returns-in-None
returns-in-None c =
    found_none (view c.args.value.now) (subst (IsFound value_entry Fits_entry (view c.args.value.now)) c.in-None.is c.in_ok-at.ensures)
