use Rattle.std.proofs.Common.{arith}
use Rattle.rp_offered.proofs.Sizes.{small_halves}
use Rattle.rp_offered.proofs.offered.halves.Goals as goal

pub returns-clause-fits : goal.returns-clause-fits
returns-clause-fits c =
    small_halves c.from.result c.ten_to.result (omega (arith, c.from.ensures, c.requires.small)) c.ten_to.ensures.small
