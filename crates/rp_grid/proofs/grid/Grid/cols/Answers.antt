use Rattle.rp_grid.proofs.HeldLemmas.{equal}
use Rattle.rp_grid.proofs.grid.Grid.cols.Goals as goal

pub returns-clause-equal : goal.returns-clause-equal
returns-clause-equal g c = let f = c.self.inside in rw (← c.self.view_is) (equal f.rows f.cols f.base f.places f.deed f.alloc c.self.invariant)
