use Rattle.std.proofs.Common.{subst}
use Rattle.serde_json.specs.View.{view}
use Rattle.rp_json_entries.specs.Reading.{IsFound}
use Rattle.rp_json_indices.proofs.ViolationsReads.{Fits_made, found_none, found_one, value_made}
use Rattle.rp_json_indices.proofs.violations.read_violations.Goals as goal

pub returns-in-Some : goal.returns-in-Some
returns-in-Some c =
    rw c.violations.ensures (found_one (view c.args.value.now) _ (subst (IsFound value_made Fits_made (view c.args.value.now)) c.in-Some.is c.in_ok-entries.ensures))

pub returns-in-None : goal.returns-in-None
returns-in-None c = found_none (view c.args.value.now) (subst (IsFound value_made Fits_made (view c.args.value.now)) c.in-None.is c.in_ok-entries.ensures)
