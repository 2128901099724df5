use Rattle.std.proofs.Common.{◌≡◌, ◌∙◌, arith}
use Rattle.rp_table.specs.Tables.{goods_of, price_of, records_of}
use Rattle.rp_power.proofs.DrawnLemmas.{row_listed, row_more, rows_whole}
use Rattle.rp_power.proofs.behaviour.copy_prices.Goals as goal

pub loop-t-preserved : goal.loop-t-preserved
loop-t-preserved c =
    let table = c.args.table.now in
    row_more c.loop-t.t (goods_of table) (price_of table) c.loop-t.prices.items c.prices.result.now c.extend_from_slice.new.self.items c.loop-t.invariant
    (row_listed (goods_of table) (price_of table c.loop-t.t) c.prices.result.now c.prices.ensures.all_goods c.prices.ensures.each)
    c.in_ok-extend_from_slice.ensures.items

pub returns : goal.returns
returns c =
    let table = c.args.table.now in
    let valid = c.n-t-end.ensures.valid in
    let all : c.loop-t.t ≡ records_of table = omega (arith, c.n-t-end.ensures.count, c.loop-t-test.false, c.loop-t.auto.t-end) in
    rw all at c.loop-t.invariant ∙ rows_whole (records_of table) (goods_of table) table.prices valid.some_goods valid.all_prices
