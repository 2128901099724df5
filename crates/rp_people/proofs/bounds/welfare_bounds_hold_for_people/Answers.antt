use Rattle.rp_people.proofs.WelfareBounds.{bounds_hold, bounds_kept}
use Rattle.rp_people.proofs.bounds.welfare_bounds_hold_for_people.Goals as goal

pub returns-clause-people : goal.returns-clause-people
returns-clause-people g c = bounds_hold

pub returns-clause-each : goal.returns-clause-each
returns-clause-each g c input prices t upper at lower = bounds_kept input prices t upper at lower g.P.BundleRelation.prefers
