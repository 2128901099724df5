use Rattle.std.proofs.Common.{subst}
use Rattle.serde_json.specs.View.{view}
use Rattle.rp_json_entries.specs.Reading.{IsFound}
use Rattle.rp_json_tests.proofs.PlaceReads.{Fits_place, no_place, value_place}
use Rattle.rp_json_tests.proofs.homothetic.PlaceNotation.read.Goals as goal

pub returns-in-None : goal.returns-in-None
returns-in-None c = no_place (view c.args.value.now) (subst (IsFound value_place Fits_place (view c.args.value.now)) c.in-None.is c.in_ok-steps.ensures)
