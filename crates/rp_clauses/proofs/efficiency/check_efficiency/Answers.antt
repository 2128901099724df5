use Rattle.std.proofs.Common.{◌<◌, ◌^◌, arith}
use Rattle.rp_evidence.specs.Preference.{IsLevel}
use Rattle.rp_evidence.specs.declared.failure.Reason.TheVariants.{Level}
use Rattle.rp_table.specs.Cost.{cost_of}
use Rattle.rp_table.specs.Tables.{records_of}
use Rattle.rp_evidence.specs.Clauses.{Unless}
use Rattle.rp_clauses.specs.EfficiencyFailure.{LevelFails}
use Rattle.rp_evidence.proofs.ClauseLemmas.{then_last}
use Rattle.rp_clauses.proofs.efficiency.check_efficiency.Goals as goal

pub returns : goal.returns
returns c =
    let e = c.args.evidence.now in
    then_last (Unless (IsLevel e.level.num e.level.den × (e.level.den < 2 ^ 51)) Level 0)
    (LevelFails (records_of c.args.input.now.table.now) (cost_of c.args.input.now.table.now) e.level.num e.level.den e.below e.above e.at)
    c.check_level.result
    ((omega arith, omega arith), omega arith)
    (rw (c.as_slice-below.ensures, c.as_slice-above.ensures) at c.check_level.ensures)
