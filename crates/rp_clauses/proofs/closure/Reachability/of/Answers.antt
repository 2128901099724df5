use Rattle.std.proofs.Common.{arith}
use Rattle.rp_evidence.specs.Preference.{IsWeak}
use Rattle.rp_evidence.proofs.Rounds.{closed_all}
use Rattle.rp_table.specs.Cost.{cost_of}
use Rattle.rp_table.specs.Tables.{records_of}
use Rattle.rp_clauses.specs.InnerBits.{has_bit}
use Rattle.rp_clauses.proofs.SeenClosures.{is_closure}
use Rattle.rp_clauses.proofs.closure.Reachability.of.Goals as goal

pub invariant_of-result : goal.invariant_of-result
invariant_of-result c = omega (arith, c.n-n.ensures.few)

pub returns : goal.returns
returns c =
    let table = c.args.input.now.table.now in
    is_closure (records_of table) c.n-n.result (IsWeak (cost_of table)) c.close.new.rows c.n-n.ensures.count
    (closed_all (records_of table) (IsWeak (cost_of table)) (has_bit c.note_steps.new.rows) (has_bit c.close.new.rows) c.note_steps.ensures (rw c.n-n.ensures.count at c.close.ensures))
