use Rattle.std.proofs.Common.{◌<◌, ◌≤◌, ◌≡◌, ◌+◌, ◌^◌, ℕ, arith, length}
use Rattle.rp_check_walk_levels.proofs.ManyWordProducts.{room_for_cost, room_for_part, words_of_one_more}
use Rattle.rp_table.specs.Cost.{cost_of}
use Rattle.rp_check_walk_levels.proofs.products.next_words.Goals as goal

pub multiply-requires : goal.multiply-requires
multiply-requires c =
    let few : c.loop-k.k < 512 = omega (arith, c.loop-k-test.true, c.requires.few, c.n-n.ensures.count, c.n-n.ensures.few) in
    let long : length c.loop-k.words ≡ 729 = omega (arith, c.loop-k-test.array_long) in
    record { fits = room_for_part (cost_of c.args.input.now.table.now) (2 ^ 40) c.args.walk.now c.loop-k.words c.loop-k.k (omega arith) few c.loop-k.invariant (length c.loop-k.words) long }

pub multiply-requires-in-loop-k : goal.multiply-requires-in-loop-k
multiply-requires-in-loop-k c =
    let few : c.loop-k.k < 512 = omega (arith, c.loop-k-test.true, c.requires.few, c.n-n.ensures.count, c.n-n.ensures.few) in
    let long : length c.multiply.new.words ≡ 729 = omega (arith, c.loop-k-test.array_long, c.multiply.auto.words) in
    record { fits = room_for_cost (cost_of c.args.input.now.table.now) (2 ^ 40) c.args.walk.now c.loop-k.words c.loop-k.k (omega arith) few c.loop-k.invariant c.multiply.new.words c.cost.result c.multiply.ensures.product c.cost.ensures.below (length c.multiply.new.words) long }

pub loop-k-preserved : goal.loop-k-preserved
loop-k-preserved c =
    let few : c.loop-k.k < 512 = omega (arith, c.loop-k-test.true, c.requires.few, c.n-n.ensures.count, c.n-n.ensures.few) in
    let within : c.loop-k.k + 1 < length c.args.walk.now = omega (arith, c.loop-k-test.true) in
    words_of_one_more (cost_of c.args.input.now.table.now) (2 ^ 40) c.args.walk.now c.loop-k.words c.loop-k.k (omega arith) few c.loop-k.invariant c.multiply.new.words c.cost.result c.multiply.ensures.product c.cost.ensures.below
    c.multiply-in-loop-k.new.words within c.multiply-in-loop-k.ensures.product c.cost.ensures.exact
