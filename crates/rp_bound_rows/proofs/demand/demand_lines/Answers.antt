use Rattle.std.proofs.Common.{ℕ, List, ◌+◌, ◌∙◌, arith, length, ap, slice_index}
use Rattle.std.proofs.lemmas.List.{length_push}
use Rattle.rp_support.proofs.ListSteps.{entry_more}
use Rattle.rp_table.specs.Rows.{row_of}
use Rattle.rp_bound_rows.specs.DemandLines.{AreDemandLinesAt}
use Rattle.rp_bound_rows.specs.declared.line.Line.{Line}
use Rattle.rp_bound_rows.proofs.demand.demand_lines.Goals as goal

pub loop-i-init : goal.loop-i-init
loop-i-init g c = record {
  one_each = ap length c.new-at.ensures.items;
  each = λ i d within. absurd (omega (arith, within));
}

pub loop-i-preserved : goal.loop-i-preserved
loop-i-preserved g c =
    let l = c.loop-i in
    let new = c.args.new.now in
    let IsAt = λ (i : ℕ) (lines : List Line). AreDemandLinesAt g.S.BoundSearch.of_demand c.args.table.now i (row_of new.prices new.goods i) (slice_index new.m i) lines in
    record {
      one_each = ap length c.in_ok-push.ensures.items ∙ length_push l.at.items c.in_ok-lines.lines ∙ ap (λ n. n + 1) l.invariant.one_each;
      each = entry_more IsAt l.at.items l.i c.in_ok-lines.lines l.invariant.one_each l.invariant.each c.in_ok-lines.ensures c.push.new.self.items c.in_ok-push.ensures.items;
    }
