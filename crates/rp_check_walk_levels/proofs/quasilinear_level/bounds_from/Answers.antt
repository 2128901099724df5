use Rattle.std.proofs.Common.{◌≡◌, ◌*◌, ℕ, ap, arith, below_more}
use Rattle.std.proofs.lemmas.Int.{ints}
use Rattle.std.specs.Prelude.{pos, ◌≤ℤ◌, ◌+ℤ◌}
use Rattle.rp_check_walk_levels.specs.QuasilinearLevelFailure.{value_at}
use Rattle.rp_table.specs.Cost.{cost_of}
use Rattle.rp_check_walk_levels.proofs.quasilinear_level.bounds_from.Goals as goal

pub loop-t-preserved : goal.loop-t-preserved
loop-t-preserved c =
    let cost = cost_of c.args.input.now.table.now in
    let values = c.args.values.now in
    let s = c.args.s in
    let spent : c.args.num * c.cost-in-loop-t.result ≡ c.args.num * cost s s = ap (λ z. c.args.num * z) c.cost-in-loop-t.ensures.exact in
    let next : c.args.den * c.cost.result ≡ c.args.den * cost s c.loop-t.t = ap (λ z. c.args.den * z) c.cost.ensures.exact in
    below_more (λ t. (value_at values t +ℤ pos (c.args.num * cost s s)) ≤ℤ (value_at values s +ℤ pos (c.args.den * cost s t))) c.loop-t.t c.loop-t.invariant
    (omega (arith, ints, spent, next, c.if-raised-here.false, c.raised.ensures, c.raised-here.ensures))
