use Rattle.rp_simplex.proofs.Same.{read_same, ready}
use Rattle.rp_simplex.proofs.tableau.Tableau.of.Goals as goal

pub invariant_of-result : goal.invariant_of-result
invariant_of-result g c =
    ready (g.P.Lp.program c.args.p.now) c.in_ok-stage.stage c.in_ok-stage.ensures.first c.in_ok-stage.ensures.columns c.in_ok-stage.ensures.shape (g.met.P.Lp.within_limits c.args.p.now) c.in_ok-room.room c.rows.result c.cols.result c.rows.ensures c.cols.ensures c.in_ok-room.ensures

pub returns : goal.returns
returns g c = read_same (g.P.Lp.program c.args.p.now) c.in_ok-stage.stage c.in_ok-stage.ensures.columns c.in_ok-stage.ensures.shape
