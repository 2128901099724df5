use Rattle.rp_evidence.specs.Preference.{IsWeak}
use Rattle.rp_table.specs.Cost.{cost_of}
use Rattle.rp_table.specs.Tables.{records_of}
use Rattle.std.proofs.Common.{arith}
use Rattle.rp_clauses.proofs.MarkLemmas.{spread_all}
use Rattle.rp_clauses.proofs.closure.spread.Goals as goal

pub reached_from-reached-requires : goal.reached_from-reached-requires
reached_from-reached-requires c = omega (arith, c.requires.closure.size, c.requires.room)

pub returns : goal.returns
returns c =
    let table = c.args.input.now.table.now in
    spread_all (records_of table) (IsWeak (cost_of table)) c.args.marks.now c.mark_bits.new.marks c.reached_from-reached.result c.args.closure.now
    c.requires.closure (rw c.requires.closure.size at c.reached_from-reached.ensures) (rw c.n-n.ensures.count at c.mark_bits.ensures)
