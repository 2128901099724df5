use Rattle.std.proofs.Common.{subst}
use Rattle.serde_json.specs.View.{view}
use Rattle.rp_json_entries.specs.Reading.{IsFound}
use Rattle.rp_json_programs.proofs.GoodReads.{Fits_good, found_good, found_none, value_good}
use Rattle.rp_json_programs.proofs.bounds.GoodNotation.read.Goals as goal

pub returns-in-Some : goal.returns-in-Some
returns-in-Some c =
    rw c.both.ensures (found_good (view c.args.value.now) _ (subst (IsFound value_good Fits_good (view c.args.value.now)) c.in-Some.is c.in_ok-entries.ensures))

pub returns-in-None : goal.returns-in-None
returns-in-None c =
    found_none (view c.args.value.now) (subst (IsFound value_good Fits_good (view c.args.value.now)) c.in-None.is c.in_ok-entries.ensures)
