use Rattle.std.proofs.Common.{◌≡◌, ◌+◌, ◌*◌, ◌%◌, ◌<◌, ◌≤◌, slice_index, sym, subst, ◌∙◌, arith}
use Rattle.std.specs.List.{All}
use Rattle.std.proofs.lemmas.List.Elements.{All-push}
use Rattle.rp_num.proofs.BelowLemmas.{listed-more}
use Rattle.rp_table.specs.Cost.{cost_of}
use Rattle.rp_table.specs.Tables.{goods_of, price_of}
use Rattle.rp_power.specs.DrawnTable.{affordable, bought_of, budget_share_of}
use Rattle.rp_power.proofs.DrawnLemmas.{count_of, left, not_all_zero_sum, read_at, share_small, total_of}
use Rattle.rp_power.proofs.behaviour.draw_bundle.Goals as goal

pub total-total-requires-clause-few : goal.total-total-requires-clause-few
total-total-requires-clause-few c =
    let count = count_of (budget_share_of c.args.table.now c.args.words.now c.args.t) (goods_of c.args.table.now) c.draw_shares.new.shares.items c.in_ok-draw_shares.ensures.drawn in
    rw c.as_slice.ensures.value (omega (arith, count, c.goods-goods.ensures.valid.few_goods))

pub index-share-requires : goal.index-share-requires
index-share-requires c =
    let count = count_of (budget_share_of c.args.table.now c.args.words.now c.args.t) (goods_of c.args.table.now) c.draw_shares.new.shares.items c.in_ok-draw_shares.ensures.drawn in
    omega (arith, count, c.draw_shares.new.shares.ok.0, c.loop-g-test.true, c.goods-goods.ensures.count)

pub affordable-requires-clause-share : goal.affordable-requires-clause-share
affordable-requires-clause-share c =
    let share = read_at (budget_share_of c.args.table.now c.args.words.now c.args.t) (goods_of c.args.table.now) c.loop-g.g c.index-share.result.now c.draw_shares.new.shares.items c.in_ok-draw_shares.ensures.drawn (omega (arith, c.loop-g-test.true, c.goods-goods.ensures.count)) c.index-share.ensures in
    subst (λ s. s < 100) (sym share) (share_small c.args.table.now c.args.words.now c.args.t c.loop-g.g)

pub affordable-requires-clause-some : goal.affordable-requires-clause-some
affordable-requires-clause-some c =
    let table = c.args.table.now in
    let words = c.args.words.now in
    let t = c.args.t in
    let total = total_of (budget_share_of table words t) (goods_of table) c.total-total.result c.draw_shares.new.shares.items c.in_ok-draw_shares.ensures.drawn (rw c.as_slice.ensures.value at c.total-total.ensures.exact) in
    subst (λ s. 1 ≤ s) (sym total) (not_all_zero_sum (goods_of table) (λ g. slice_index words (t * goods_of table + g) % 100) c.goods-goods.ensures.valid.some_goods)

pub loop-g-preserved : goal.loop-g-preserved
loop-g-preserved c =
    let table = c.args.table.now in
    let words = c.args.words.now in
    let t = c.args.t in
    let g = c.loop-g.g in
    let observed = c.requires.observed in
    let spent : c.cost.result ≡ cost_of table t t = c.cost.ensures.exact ∙ c.requires.of_table.each t t observed observed in
    let share = read_at (budget_share_of table words t) (goods_of table) g c.index-share.result.now c.draw_shares.new.shares.items c.in_ok-draw_shares.ensures.drawn (omega (arith, c.loop-g-test.true, c.goods-goods.ensures.count)) c.index-share.ensures in
    let total = total_of (budget_share_of table words t) (goods_of table) c.total-total.result c.draw_shares.new.shares.items c.in_ok-draw_shares.ensures.drawn (rw c.as_slice.ensures.value at c.total-total.ensures.exact) in
    let price : c.price-price.result ≡ price_of table t g = c.price-price.ensures.exact in
    let quantity : c.affordable.result ≡ bought_of table words t g = c.affordable.ensures.exact ∙ (λ i. affordable (spent i) (share i) (total i) (price i)) in
    record {
      drawn = c.in_ok-push.ensures.items ∙ listed-more (bought_of table words t) g c.affordable.result c.loop-g.bundle.items c.loop-g.invariant.drawn quantity;
      within = subst (All (λ q. q ≤ 9999999)) (sym c.in_ok-push.ensures.items) (All-push (λ q. q ≤ 9999999) c.loop-g.bundle.items c.affordable.result c.loop-g.invariant.within c.affordable.ensures.within);
    }

pub leave_not_all_zero-requires-clause-some : goal.leave_not_all_zero-requires-clause-some
leave_not_all_zero-requires-clause-some c =
    let count = count_of (bought_of c.args.table.now c.args.words.now c.args.t) c.loop-g.g c.loop-g.bundle.items c.loop-g.invariant.drawn in
    omega (arith, count, c.goods-goods.ensures.count, c.goods-goods.ensures.valid.some_goods, c.loop-g-test.false)

pub leave_not_all_zero-requires-clause-few : goal.leave_not_all_zero-requires-clause-few
leave_not_all_zero-requires-clause-few c =
    let count = count_of (bought_of c.args.table.now c.args.words.now c.args.t) c.loop-g.g c.loop-g.bundle.items c.loop-g.invariant.drawn in
    omega (arith, count, c.goods-goods.ensures.count, c.goods-goods.ensures.valid.few_goods, c.loop-g.auto.g-end)

pub returns : goal.returns
returns c =
    let table = c.args.table.now in
    let words = c.args.words.now in
    let all : c.loop-g.g ≡ goods_of table = omega (arith, c.goods-goods.ensures.count, c.loop-g-test.false, c.loop-g.auto.g-end) in
    left (goods_of table) (bought_of table words c.args.t) c.loop-g.bundle.items c.leave_not_all_zero.new.numbers.items (rw all at c.loop-g.invariant.drawn) c.leave_not_all_zero.ensures
