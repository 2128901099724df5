use Rattle.std.proofs.Common.{◌≡◌, ap, ◌∙◌, arith, length-set, slice_set, get_or}
use Rattle.rp_grid.proofs.Exchange.{one_written, all_done, exchanged_to}
use Rattle.rp_grid.proofs.grid.Grid.swap.Goals as goal

pub loop-c-preserved : goal.loop-c-preserved
loop-c-preserved g c =
    let a = c.args.a in let b = c.args.b in let old = c.args.self.now in let at = c.loop-c.c in let cols = c.cols-c-end.ensures in
    let x = c.index-row-c.result in let y = c.index-row-c-in-loop-c.result in
    let first = c.row_mut.ensures in let second = c.row_mut-in-loop-c.ensures in
    let to_a = slice_set c.row_mut.result.now at y in let to_b = slice_set c.row_mut-in-loop-c.result.now at x in
    one_written old a b c.if-a-b.false c.requires.first c.requires.second (cols.equal a c.requires.first) (cols.equal b c.requires.second) at (omega (arith, cols.count, c.loop-c-test.true))
    c.loop-c.self c.loop-c.invariant x y
    (c.index-row-c.is ∙ ap (λ l. get_or l at x) c.row.ensures.row) (c.index-row-c-in-loop-c.is ∙ ap (λ l. get_or l at y) c.row-in-loop-c.ensures.row)
    _ _
    (first.kept to_a (length-set c.row_mut.result.now at y ∙ first.length) ∙ ap (λ l. slice_set l at y) first.row)
    (second.kept to_b (length-set c.row_mut-in-loop-c.result.now at x ∙ second.length) ∙ ap (λ l. slice_set l at x) second.row)

pub returns : goal.returns
returns g c =
    let a = c.args.a in let b = c.args.b in let old = c.args.self.now in let cols = c.cols-c-end.ensures in
    let end : c.loop-c.c ≡ old.cols = omega (arith, cols.count, c.loop-c-test.false, c.loop-c.auto.c-end) in
    c.loop-c.invariant ∙ ap (λ n. exchanged_to n old a b) end ∙ all_done old a b (cols.equal a c.requires.first) (cols.equal b c.requires.second)
