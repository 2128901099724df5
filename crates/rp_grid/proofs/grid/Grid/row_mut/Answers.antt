use Rattle.std.proofs.Common.{◌<◌, length, refl, sym, ap, ◌∙◌, subst, drop, take_at}
use Rattle.rp_grid.specs.Held.{held}
use Rattle.rp_grid.specs.Rows.{row_of}
use Rattle.rp_grid.proofs.HeldLemmas.{asks, equal, shown, lent}
use Rattle.rp_grid.proofs.grid.Grid.row_mut.Goals as goal

pub slice_mut-requires : goal.slice_mut-requires
slice_mut-requires g c = let f = c.self.inside in
    asks f.rows f.cols f.base f.places f.deed f.alloc c.self.invariant c.args.r (subst (λ v. c.args.r < length v.rows) (sym c.self.view_is) c.requires)

pub invariant_of-self-lent : goal.invariant_of-self-lent
invariant_of-self-lent g c = λ w. let f = c.self.inside in
    (lent f.rows f.cols f.base f.places f.deed f.alloc c.self.invariant c.args.r (subst (λ v. c.args.r < length v.rows) (sym c.self.view_is) c.requires) w).0

pub returns : goal.returns
returns g c =
    let f = c.self.inside in let lt = subst (λ v. c.args.r < length v.rows) (sym c.self.view_is) c.requires in
    let is = shown f.rows f.cols f.base f.places f.deed f.alloc c.self.invariant c.args.r lt c.slice_mut.result.now c.slice_mut.ensures.value in
    let long = equal f.rows f.cols f.base f.places f.deed f.alloc c.self.invariant c.args.r lt in
    rw (← c.self.view_is) (
      (refl, λ w. (lent f.rows f.cols f.base f.places f.deed f.alloc c.self.invariant c.args.r lt w).1),
      record {
        writes_back = tt;
        row = is;
        length = ap length is ∙ long;
        kept = λ xs e. take_at xs (drop (length xs) (row_of (held f.rows f.cols f.places) c.args.r)) f.cols e;
      },
    )
