use Rattle.std.proofs.lemmas.Int.{to_z-of_z}
use mir.Syntax.{w128}
use Rattle.rp_quasi.proofs.sums.SumsTotal.first_to_try.Goals as goal

pub returns-clause-fits : goal.returns-clause-fits
returns-clause-fits c = λ i from below.
    let it = c.first_to_try.ensures.fits i from below in
    let same = it.2 in
    (it.0, it.1, rw (to_z-of_z w128 c.args.v c.ranges.v) at same)
