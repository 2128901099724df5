use Rattle.std.proofs.Common.{◌<◌, length, sym, ap, ◌∙◌, subst}
use Rattle.rp_grid.specs.Rows.{row_of}
use Rattle.rp_grid.proofs.HeldLemmas.{asks, equal, shown}
use Rattle.rp_grid.proofs.grid.Grid.row.Goals as goal

pub slice-requires : goal.slice-requires
slice-requires g c = let f = c.self.inside in
    asks f.rows f.cols f.base f.places f.deed f.alloc c.self.invariant c.args.r (subst (λ v. c.args.r < length v.rows) (sym c.self.view_is) c.requires)

pub returns-clause-row : goal.returns-clause-row
returns-clause-row g c = let f = c.self.inside in
    shown f.rows f.cols f.base f.places f.deed f.alloc c.self.invariant c.args.r (subst (λ v. c.args.r < length v.rows) (sym c.self.view_is) c.requires) c.slice.result.now c.slice.ensures
    ∙ ap (λ v. row_of v c.args.r) c.self.view_is

pub returns-clause-length : goal.returns-clause-length
returns-clause-length g c = let f = c.self.inside in let lt = subst (λ v. c.args.r < length v.rows) (sym c.self.view_is) c.requires in
    ap length (shown f.rows f.cols f.base f.places f.deed f.alloc c.self.invariant c.args.r lt c.slice.result.now c.slice.ensures)
    ∙ equal f.rows f.cols f.base f.places f.deed f.alloc c.self.invariant c.args.r lt ∙ ap (λ v. v.cols) c.self.view_is
