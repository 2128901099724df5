use Rattle.std.proofs.Common.{◌<◌, FitsSigned, length, arith, rules, sym}
use Rattle.std.specs.Int.{w128}
use Rattle.std.proofs.lemmas.Int.{ints}
use Rattle.rp_whole_tableau.proofs.Entries.{row_read, row_renewed_is, rows_left_out, rows_more}
use Rattle.rp_whole_tableau.proofs.pivot.Renewal.renew_rows.Goals as goal
use Rattle.rp_whole_tableau.proofs.pivot.Renewal.renew_rows.Goals.{else-i-r-via-then-i-r+else-not-renew_row, else-i-r-via-else-i-r}

pub loop-i-preserved : goal.loop-i-preserved
loop-i-preserved c =
    let rows = c.loop-i.rows.items in
    let i = c.loop-i.i in
    let inside : i < length rows = omega (arith, c.loop-i-test.true, c.len-i-end.ensures, c.loop-i.invariant.count, c.args.rows.now.ok.0) in
    elim c.else-i-r.branch [
      | else-i-r-via-then-i-r+else-not-renew_row w ↦
          (let fits : FitsSigned w128 w.entry_at.result = search rules in
          let read = row_read rows i w.index_mut.result.now inside w.index_mut.ensures.value in
          rw w.rows-is (rows_more _ _ _ _ _ _ _ c.loop-i.invariant w.renew_row.new.row inside w.if-i-r.true
          (row_renewed_is c.args.self.now.by.number _ _ _ _ _ w.if-not-renew_row.ensures _ _ _ c.requires (omega (arith, ints, w.entry_at.ensures)) (sym read))))
      | else-i-r-via-else-i-r w ↦ rw w.rows-is (rows_left_out _ _ _ _ _ _ _ c.loop-i.invariant w.if-i-r.false)
    ]
