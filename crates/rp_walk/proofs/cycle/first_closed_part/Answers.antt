use Rattle.std.proofs.Common.{◌+◌, arith}
use Rattle.rp_num.proofs.Repeats.{repeats}
use Rattle.rp_walk.proofs.cycle.first_closed_part.Goals as goal

pub unreachable-requires : goal.unreachable-requires
unreachable-requires c =
    let r = repeats c.args.n c.args.walk.now c.requires.within c.requires.long in
    c.loop-i.invariant.distinct r.0 (r.0 + r.1) (omega (arith, r.2)) (omega (arith, r.3)) r.4
