use Rattle.std.proofs.Common.{subst}
use Rattle.serde_json.specs.View.{view}
use Rattle.rp_json_entries.specs.Reading.{IsFound}
use Rattle.rp_json_programs.proofs.ShareReads.{Fits_share, found_none, found_share, value_share}
use Rattle.rp_json_programs.proofs.random.TypeShareNotation.read.Goals as goal

pub returns-in-Some : goal.returns-in-Some
returns-in-Some c =
    rw c.share.ensures (found_share (view c.args.value.now) _ (subst (IsFound value_share Fits_share (view c.args.value.now)) c.in-Some.is c.in_ok-entries.ensures))

pub returns-in-None : goal.returns-in-None
returns-in-None c =
    found_none (view c.args.value.now) (subst (IsFound value_share Fits_share (view c.args.value.now)) c.in-None.is c.in_ok-entries.ensures)
