use Rattle.rp_simplex.specs.ReadProgram.{program_in}
use Rattle.rp_simplex.proofs.Outcomes.{whole}
use Rattle.rp_simplex.proofs.Same.{same_back, same_outcome}
use Rattle.rp_simplex.proofs.simplex.maximize.Goals as goal

pub returns : goal.returns
returns g c =
    let p = g.P.Lp.program c.args.p.now in let q = program_in c.in_ok-tableau.tableau in
    whole p c.solve.result (g.met.P.Lp.within_limits c.args.p.now) (same_outcome q p (same_back p q c.in_ok-tableau.ensures) c.solve.result c.solve.ensures.outcome)
