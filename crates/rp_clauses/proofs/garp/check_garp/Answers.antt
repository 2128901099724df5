use Rattle.std.proofs.Common.{ℕ, List, subst, sym}
use Rattle.rp_clauses.specs.GarpFailure.{GarpFails, RanksFail}
use Rattle.rp_clauses.specs.WalkFailure.{ViolationFails}
use Rattle.rp_evidence.specs.declared.garp.Garp.{Garp}
use Rattle.rp_clauses.specs.Standards.{StrictUnder, WeakUnder}
use Rattle.rp_table.specs.Cost.{cost_of}
use Rattle.rp_table.specs.Tables.{records_of}
use Rattle.rp_clauses.proofs.garp.check_garp.Goals as goal

pub returns-in-Cycle : goal.returns-in-Cycle
returns-in-Cycle c =
    let table = c.args.input.now.table.now in
    let weak = WeakUnder c.args.standard table.levels (cost_of table) in
    let strict = StrictUnder c.args.standard table.levels (cost_of table) in
    subst (λ (evidence : Garp). GarpFails (records_of table) weak strict evidence c.check_violation.result) (sym c.in-Cycle.is)
    (subst (λ (walk : List ℕ). ViolationFails (records_of table) weak strict walk c.check_violation.result) c.as_slice-in-Cycle.ensures c.check_violation.ensures)

pub returns-in-Ranks : goal.returns-in-Ranks
returns-in-Ranks c =
    let table = c.args.input.now.table.now in
    let weak = WeakUnder c.args.standard table.levels (cost_of table) in
    let strict = StrictUnder c.args.standard table.levels (cost_of table) in
    subst (λ (evidence : Garp). GarpFails (records_of table) weak strict evidence c.check_respecting_ranks.result) (sym c.in-Ranks.is)
    (subst (λ (ranks : List ℕ). RanksFail (records_of table) weak strict ranks c.check_respecting_ranks.result) c.as_slice.ensures c.check_respecting_ranks.ensures)
