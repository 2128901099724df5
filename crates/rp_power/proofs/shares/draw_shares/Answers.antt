use Rattle.std.proofs.Common.{◌≡◌, ◌+◌, ◌*◌, ◌%◌, ℕ, List, slice_index, arith}
use Rattle.rp_table.specs.Tables.{Observations, goods_of}
use Rattle.rp_power.proofs.DrawnLemmas.{count_of, left, shares_small}
use Rattle.rp_power.proofs.shares.draw_shares.Goals as goal

-- the words of an observation modulo 100
abbrev rest_of : Observations → List ℕ → ℕ → ℕ → ℕ
rest_of table words t g = slice_index words (t * goods_of table + g) % 100

pub leave_not_all_zero-requires-clause-some : goal.leave_not_all_zero-requires-clause-some
leave_not_all_zero-requires-clause-some c =
    let count = count_of (rest_of c.args.table.now c.args.words.now c.args.t) c.loop-g.g c.loop-g.shares.items c.loop-g.invariant.drawn in
    omega (arith, count, c.goods-goods.ensures.count, c.goods-goods.ensures.valid.some_goods, c.loop-g-test.false)

pub leave_not_all_zero-requires-clause-few : goal.leave_not_all_zero-requires-clause-few
leave_not_all_zero-requires-clause-few c =
    let count = count_of (rest_of c.args.table.now c.args.words.now c.args.t) c.loop-g.g c.loop-g.shares.items c.loop-g.invariant.drawn in
    omega (arith, count, c.goods-goods.ensures.count, c.goods-goods.ensures.valid.few_goods, c.loop-g.auto.g-end)

pub returns-clause-drawn : goal.returns-clause-drawn
returns-clause-drawn c =
    let table = c.args.table.now in
    let words = c.args.words.now in
    let all : c.loop-g.g ≡ goods_of table = omega (arith, c.goods-goods.ensures.count, c.loop-g-test.false, c.loop-g.auto.g-end) in
    left (goods_of table) (rest_of table words c.args.t) c.loop-g.shares.items c.leave_not_all_zero.new.numbers.items (rw all at c.loop-g.invariant.drawn) c.leave_not_all_zero.ensures

pub returns-clause-within : goal.returns-clause-within
returns-clause-within c = shares_small c.args.table.now c.args.words.now c.args.t c.leave_not_all_zero.new.numbers.items (returns-clause-drawn c)
