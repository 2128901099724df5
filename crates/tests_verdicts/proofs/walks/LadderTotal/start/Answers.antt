use Rattle.std.proofs.Common.{arith, refl}
use Rattle.std.proofs.lemmas.Int.{ints}
use Rattle.std.specs.Prelude.{pos}
use Rattle.tests_verdicts.proofs.walks.LadderTotal.start.Goals as goal

pub returns-clause-fits : goal.returns-clause-fits
returns-clause-fits c = (pos 0, omega (arith, ints), omega (arith, ints), refl)
