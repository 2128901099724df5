use Rattle.std.proofs.Common.{◌+◌, ◌∙◌, arith, length, ap}
use Rattle.std.proofs.lemmas.List.{length_push}
use Rattle.rp_support.proofs.ListSteps.{entry_more}
use Rattle.rp_table.specs.Rows.{row_of}
use Rattle.rp_bound_rows.specs.WelfareLines.{IsObservationLine}
use Rattle.rp_bound_rows.proofs.welfare.welfare_lines_at.Goals as goal

pub loop-t-init : goal.loop-t-init
loop-t-init g c = record {
  one_each = ap length c.new-lines.ensures.items;
  each = λ t d within. absurd (omega (arith, within));
}

pub loop-t-preserved : goal.loop-t-preserved
loop-t-preserved g c =
    let l = c.loop-t in
    let new = c.args.new.now in
    let IsLine = IsObservationLine g.S.BoundSearch.of_welfare c.args.table.now c.args.places c.args.i (row_of new.prices new.goods c.args.i) in
    record {
      one_each = ap length c.in_ok-push.ensures.items ∙ length_push l.lines.items c.in_ok-line.line ∙ ap (λ n. n + 1) l.invariant.one_each;
      each = entry_more IsLine l.lines.items l.t c.in_ok-line.line l.invariant.one_each l.invariant.each c.in_ok-line.ensures c.push.new.self.items c.in_ok-push.ensures.items;
    }
