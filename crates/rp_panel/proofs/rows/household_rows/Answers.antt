use Rattle.std.proofs.Common.{◌+◌, ◌∙◌, arith, length, ap}
use Rattle.std.proofs.lemmas.List.{length_push}
use Rattle.rp_panel.proofs.RowLemmas.{one_more}
use Rattle.rp_panel.proofs.rows.household_rows.Goals as goal

pub loop-h-init : goal.loop-h-init
loop-h-init g c = record {
  one_each = ap length c.new-rows.ensures.items;
  each = λ h row within. absurd (omega (arith, within));
}

pub loop-h-preserved : goal.loop-h-preserved
loop-h-preserved g c =
    let l = c.loop-h in
    record {
      one_each = ap length c.in_ok-push.ensures.items ∙ length_push l.rows.items c.in_ok-row.row ∙ ap (λ n. n + 1) l.invariant.one_each;
      each = one_more g.T.HomotheticTest.given c.args.asked c.args.offered c.args.panel.now l.h l.rows.items c.push.new.self.items c.in_ok-row.row l.invariant.one_each c.in_ok-push.ensures.items c.in_ok-row.ensures l.invariant.each;
    }
