use Rattle.std.proofs.Common.{ℕ, ◌/◌, ◌%◌, arith}
use Rattle.rp_evidence.specs.Input.{input_of_table}
use Rattle.rp_evidence.specs.declared.certificate.Item.{Item}
use Rattle.rp_support.proofs.ListSteps.{entry_more}
use Rattle.rp_table.specs.Rows.{row_of}
use Rattle.rp_table.specs.Tables.{records_of}
use Rattle.rp_answers.specs.WelfareText.{IsWelfareItem}
use Rattle.rp_answers.proofs.welfare.welfare_items.Goals as goal

pub loop-k-preserved : goal.loop-k-preserved
loop-k-preserved c =
    let l = c.loop-k in
    let new = c.args.new.now in
    let n = records_of c.args.table.now in
    let IsAnswer = λ (k : ℕ) (item : Item). IsWelfareItem (input_of_table c.args.table.now) c.args.tested.now.garp (row_of new.prices new.goods (k / n)) (k % n) item in
    let last = rw (c.row.ensures.exact, c.n-n.ensures.count) at c.in_ok-item.ensures in
    record {
      one_each = omega (arith, l.invariant.one_each, c.in_ok-push.ensures.len, l.items.ok.0, c.push.new.self.ok.0);
      each = entry_more IsAnswer l.items.items l.k c.in_ok-item.item l.invariant.one_each l.invariant.each last c.push.new.self.items c.in_ok-push.ensures.items;
    }
