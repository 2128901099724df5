use Rattle.rp_bounds_panel.proofs.RowLemmas.{none_written, one_more}
use Rattle.rp_bounds_panel.proofs.rows.write_households.Goals as goal

pub loop-h-init : goal.loop-h-init
loop-h-init g c = none_written g.S.BoundSearch.of_demand g.S.BoundSearch.of_welfare c.args.asked c.args.new.now c.args.panel.now _

pub loop-h-preserved : goal.loop-h-preserved
loop-h-preserved g c =
    let l = c.loop-h in
    one_more g.S.BoundSearch.of_demand g.S.BoundSearch.of_welfare c.args.asked c.args.new.now c.args.panel.now _ l.h l.rows _ c.in_ok-row.row l.invariant c.in_ok-row.ensures c.in_ok-write_row.ensures
