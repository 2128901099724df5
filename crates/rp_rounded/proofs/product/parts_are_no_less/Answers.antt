use Rattle.std.proofs.Common.{arith}
use Rattle.rp_rounded.proofs.Twos.{no_less}
use Rattle.rp_rounded.proofs.product.parts_are_no_less.Goals as goal

pub returns : goal.returns
returns c = λ h.
    no_less c.args.v.0 c.args.v.1 c.args.best.0 c.args.best.1 c.args.across c.args.own c.in-Some.left c.in-Some-part_times.right _
    c.in-Some.ensures.value c.in-Some-part_times.ensures.value (omega arith) (c.is_no_less.ensures h)
