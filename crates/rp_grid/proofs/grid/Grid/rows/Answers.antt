use Rattle.std.proofs.Common.{sym}
use Rattle.rp_grid.specs.Places.{somes}
use Rattle.rp_grid.proofs.Cut.{cut_count}
use Rattle.rp_grid.proofs.HeldLemmas.{equal}
use Rattle.rp_grid.proofs.grid.Grid.rows.Goals as goal

pub returns-clause-count : goal.returns-clause-count
returns-clause-count g c = rw (← c.self.view_is) (sym (cut_count c.self.inside.rows c.self.inside.cols (somes c.self.inside.places.slots)))

pub returns-clause-equal : goal.returns-clause-equal
returns-clause-equal g c = let f = c.self.inside in rw (← c.self.view_is) (equal f.rows f.cols f.base f.places f.deed f.alloc c.self.invariant)
