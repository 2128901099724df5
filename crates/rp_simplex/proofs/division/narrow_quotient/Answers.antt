use Rattle.rp_simplex.proofs.Divisors.{narrow_read}
use Rattle.rp_simplex.proofs.division.narrow_quotient.Goals as goal

pub returns : goal.returns
returns c = narrow_read c.args.entry c.args.divisor c.requires.positive c.requires.divides c.requires.fits c.ranges.divisor
