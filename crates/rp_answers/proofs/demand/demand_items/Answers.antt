use Rattle.std.proofs.Common.{ℕ, arith, slice_index}
use Rattle.rp_evidence.specs.Input.{input_of_table}
use Rattle.rp_evidence.specs.declared.certificate.Item.{Item}
use Rattle.rp_support.proofs.ListSteps.{entry_more}
use Rattle.rp_table.specs.Rows.{row_of}
use Rattle.rp_answers.specs.DemandText.{IsDemandItem}
use Rattle.rp_answers.proofs.demand.demand_items.Goals as goal

pub loop-i-preserved : goal.loop-i-preserved
loop-i-preserved c =
    let l = c.loop-i in
    let new = c.args.new.now in
    let IsAnswer = λ (i : ℕ) (item : Item). IsDemandItem (input_of_table c.args.table.now) c.args.tested.now.garp (row_of new.prices new.goods i) (slice_index new.m i) item in
    let last = rw (c.row.ensures.exact, c.m.ensures.exact) at c.in_ok-item.ensures in
    record {
      one_each = omega (arith, l.invariant.one_each, c.in_ok-push.ensures.len, l.items.ok.0, c.push.new.self.ok.0);
      each = entry_more IsAnswer l.items.items l.i c.in_ok-item.item l.invariant.one_each l.invariant.each last c.push.new.self.items c.in_ok-push.ensures.items;
    }
