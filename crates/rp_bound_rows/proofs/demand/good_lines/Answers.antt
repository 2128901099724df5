use Rattle.std.proofs.Common.{◌+◌, ◌∙◌, arith, length, ap}
use Rattle.std.proofs.lemmas.List.{length_push}
use Rattle.rp_support.proofs.ListSteps.{entry_more}
use Rattle.rp_bound_rows.specs.DemandLines.{IsGoodLine}
use Rattle.rp_bound_rows.proofs.demand.good_lines.Goals as goal

pub loop-g-init : goal.loop-g-init
loop-g-init c = record {
  one_each = ap length c.new-lines.ensures.items;
  each = λ g d within. absurd (omega (arith, within));
}

pub loop-g-preserved : goal.loop-g-preserved
loop-g-preserved c =
    let l = c.loop-g in
    record {
      one_each = ap length c.in_ok-push.ensures.items ∙ length_push l.lines.items c.in_ok-line.line ∙ ap (λ n. n + 1) l.invariant.one_each;
      each = entry_more (IsGoodLine c.args.table.now c.args.i c.args.part.now) l.lines.items l.g c.in_ok-line.line l.invariant.one_each l.invariant.each c.in_ok-line.ensures c.push.new.self.items c.in_ok-push.ensures.items;
    }
