use Rattle.std.proofs.Common.{arith}
use Rattle.rp_simplex.proofs.Divisors.{narrow_divides, quotient_read}
use Rattle.rp_simplex.proofs.division.wide_quotient.Goals as goal

pub narrow_quotient-requires-clause-divides : goal.narrow_quotient-requires-clause-divides
narrow_quotient-requires-clause-divides c =
    narrow_divides c.args.entry c.args.divisor c.unsigned_abs.result c.requires.fits c.unsigned_abs.ensures.value (omega (arith, c.if-unsigned_abs-le-WIDTH.true)) (omega (arith, c.if-divisor-le-WIDTH.true)) c.requires.divides

pub returns-else-divisor-le-WIDTH-clause-value : goal.returns-else-divisor-le-WIDTH-clause-value
returns-else-divisor-le-WIDTH-clause-value c = quotient_read c.args.entry c.args.divisor c.requires.positive c.requires.small c.requires.divides c.requires.fits
