use Rattle.std.proofs.Common.{◌≤◌, List, ℕ, slice_index, subst, sym}
use Rattle.rp_orders.proofs.OrderCells.{few_units}
use Rattle.rp_orders.proofs.choosers.OrdersOverCellUnits.units.Goals as goal

pub returns-clause-few : goal.returns-clause-few
returns-clause-few c =
    let self = c.args.self.now in
    subst (λ (us : List ℕ). slice_index us c.args.cell ≤ 1000000000) (sym c.as_slice.ensures)
    (few_units self.seen.now c.letters.ensures.valid self.units.now self.are c.args.cell c.requires)
