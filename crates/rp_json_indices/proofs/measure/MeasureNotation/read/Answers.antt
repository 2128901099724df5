use Rattle.std.proofs.Common.{subst}
use Rattle.serde_json.specs.View.{view}
use Rattle.rp_json_entries.specs.Reading.{IsFound}
use Rattle.rp_json_indices.proofs.MeasureReads.{Fits_name, found_none, value_mean, value_squares}
use Rattle.rp_json_indices.proofs.measure.MeasureNotation.read.Goals as goal

pub returns-in-None-2 : goal.returns-in-None-2
returns-in-None-2 c =
    found_none (view c.args.value.now) (subst (IsFound value_mean Fits_name (view c.args.value.now)) c.in-None.is c.in_ok-read.ensures)
    (subst (IsFound value_squares Fits_name (view c.args.value.now)) c.in-None-2.is c.in_ok-read-2.ensures)
