use Rattle.std.proofs.Common.{◌≡◌, ◌+◌, ◌-◌, length, arith, refl, slice_index}
use Rattle.rp_table.specs.Cost.{cost_of}
use Rattle.rp_clauses.proofs.WalkProducts.{at_start, ends_below, fails_not_less, fails_wide, one_more}
use Rattle.rp_clauses.proofs.homothetic.check_products.Goals as goal

pub loop-k-init : goal.loop-k-init
loop-k-init c = at_start (cost_of c.args.input.now.table.now) c.args.start c.args.walk.now c.den.ensures.lowest

pub returns-in-Err : goal.returns-in-Err
returns-in-Err c =
    fails_wide (cost_of c.args.input.now.table.now) c.args.start c.args.walk.now
    c.loop-k.k (slice_index c.args.walk.now c.loop-k.k) (slice_index c.args.walk.now (c.loop-k.k + 1)) c.loop-k.product
    (omega arith) refl refl c.taken_on.ensures.own c.loop-k.invariant
    c.fails.result (c.in-Err.ensures.wide.0 refl) c.fails.ensures

pub loop-k-preserved : goal.loop-k-preserved
loop-k-preserved c =
    one_more (cost_of c.args.input.now.table.now) c.args.start c.args.walk.now
    c.loop-k.k (slice_index c.args.walk.now c.loop-k.k) (slice_index c.args.walk.now (c.loop-k.k + 1)) c.loop-k.product
    (omega arith) refl refl c.taken_on.ensures.own c.loop-k.invariant
    c.in-Ok.taken c.in-Ok.ensures.product (λ wide. absurd (cc (c.in-Ok.ensures.wide.1 wide)))

pub returns-then-not-is_below : goal.returns-then-not-is_below
returns-then-not-is_below c =
    let all : c.loop-k.k ≡ length c.args.walk.now - 1 = omega arith in
    fails_not_less (cost_of c.args.input.now.table.now) c.args.start c.args.walk.now
    c.loop-k.k c.loop-k.product all (omega arith) c.loop-k.invariant
    c.fails-then-not-is_below.result (λ less. absurd (cc (c.is_below.ensures.1 less))) c.fails-then-not-is_below.ensures

pub returns : goal.returns
returns c =
    let all : c.loop-k.k ≡ length c.args.walk.now - 1 = omega arith in
    ends_below (cost_of c.args.input.now.table.now) c.args.start c.args.walk.now
    c.loop-k.k c.loop-k.product all (omega arith) c.loop-k.invariant
    (c.is_below.ensures.0 c.if-not-is_below.false)
