use Rattle.std.proofs.Common.{arith}
use Rattle.std.proofs.lemmas.Nat.Gcd.{dvd_refl}
use Rattle.rp_whole_tableau.proofs.grown.Grown.divisor_with_amount.Goals as goal

pub returns-in-None-clause-divides : goal.returns-in-None-clause-divides
returns-in-None-clause-divides c = dvd_refl c.args.common

pub returns-in-None-clause-amount : goal.returns-in-None-clause-amount
returns-in-None-clause-amount c = λ added. absurd (omega (arith, added, c.in-None.ensures.slack))
