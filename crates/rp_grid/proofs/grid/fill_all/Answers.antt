use Rattle.std.proofs.Common.{Some, None, slice_set, ap, sym, ◌∙◌}
use Rattle.rp_grid.proofs.Cut.{filled_more}
use Rattle.rp_grid.proofs.grid.fill_all.Goals as goal

pub loop-index-preserved : goal.loop-index-preserved
loop-index-preserved g c =
    let before = c.loop-index.invariant in let i = c.loop-index.index in let wrote = c.write.ensures in
    (before.0 ∙ sym wrote.0, wrote.0 ∙ before.1, wrote.1 ∙ ap (λ l. slice_set l i (Some c.args.fill)) before.2 ∙ filled_more c.args.len i (Some c.args.fill) None c.loop-index-test.true)
