use Rattle.std.proofs.lemmas.Int.{to_z-of_z}
use mir.Syntax.{w8}
use Rattle.tests_verdicts.proofs.walks.LadderTotal.first_to_try.Goals as goal

pub returns-clause-fits : goal.returns-clause-fits
returns-clause-fits c = λ i from below.
    let it = c.first_to_try.ensures.fits i from below in
    let same = it.3 in
    (it.0, it.1, it.2, rw (to_z-of_z w8 c.args.v c.ranges.v) at same)
