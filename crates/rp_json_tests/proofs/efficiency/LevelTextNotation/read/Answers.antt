use Rattle.std.proofs.Common.{subst}
use Rattle.serde_json.specs.View.{view}
use Rattle.rp_num.specs.Spelled.{IsReduced}
use Rattle.rp_json_entries.specs.Reading.{IsFound}
use Rattle.rp_json_entries.specs.Values.{fraction_value}
use Rattle.rp_json_tests.proofs.EfficiencyReads.{level_read, no_fraction}
use Rattle.rp_json_tests.proofs.efficiency.LevelTextNotation.read.Goals as goal

pub returns-in-Some : goal.returns-in-Some
returns-in-Some c =
    level_read (view c.args.value.now) c.in-Some.level c.level_from.result (subst (IsFound fraction_value IsReduced (view c.args.value.now)) c.in-Some.is c.in_ok-level.ensures)
    c.level_from.ensures.parts c.level_from.ensures.fits c.level_from.ensures.long

pub returns-in-None : goal.returns-in-None
returns-in-None c = no_fraction (view c.args.value.now) (subst (IsFound fraction_value IsReduced (view c.args.value.now)) c.in-None.is c.in_ok-level.ensures)
