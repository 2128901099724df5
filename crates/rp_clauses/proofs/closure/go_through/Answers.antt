use Rattle.std.proofs.Common.{arith, length-set, sym, ◌∙◌, refl}
use Rattle.rp_evidence.proofs.Rounds.{unreached_gone}
use Rattle.rp_clauses.specs.InnerBits.{has_bit}
use Rattle.rp_clauses.proofs.BitRows.{row_gone}
use Rattle.rp_clauses.proofs.closure.go_through.Goals as goal
use Rattle.rp_clauses.proofs.closure.go_through.Goals.{then-is_set, else-is_set}

pub loop-s-preserved : goal.loop-s-preserved
loop-s-preserved c =
    let old = c.args.rows.now in
    let now = c.loop-s.rows in
    let so_far = c.loop-s.invariant in
    let k = c.args.k in
    let s = c.loop-s.s in
    elim c.if-is_set.branch [
      | then-is_set w ↦ rw w.rows-is (record {
        long = length-set now s w.take_in.new.row ∙ so_far.long;
        bits = row_gone old now k s so_far.bits (omega (arith, so_far.long, c.told-rows)) (sym c.is_set.ensures ∙ w.if-is_set.true) w.take_in.new.row w.take_in.ensures _ refl;
      })
      | else-is_set w ↦ rw w.rows-is (record {
        long = so_far.long;
        bits = unreached_gone (has_bit old) (has_bit now) k s so_far.bits (sym c.is_set.ensures ∙ w.if-is_set.false);
      })
    ]
