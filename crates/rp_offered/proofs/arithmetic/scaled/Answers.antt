use Rattle.std.proofs.Common.{arith}
use Rattle.rp_offered.proofs.Sizes.{small_money}
use Rattle.rp_offered.proofs.arithmetic.scaled.Goals as goal

pub returns-clause-small_fits : goal.returns-clause-small_fits
returns-clause-small_fits c = λ small.
    small_money c.args.n c.from.result small (omega (arith, c.from.ensures, c.ten_to.ensures.small))
