use Rattle.std.proofs.Common.{◌≡◌, ◌<◌, ◌≤◌, List, ℕ, arith, length, slice_index, subst, sym}
use Rattle.rp_orders.proofs.OrderCells.{few_units, no_units}
use Rattle.rp_orders.proofs.SumLemmas.{units_at_cell}
use Rattle.rp_orders.specs.OrderMixtures.{units_of}
use Rattle.rp_orders.proofs.sums.units_of.Goals as goal

pub returns-then-cell-cells-clause-exact : goal.returns-then-cell-cells-clause-exact
returns-then-cell-cells-clause-exact c =
    sym (no_units c.args.seen.now c.letters.ensures.valid c.args.units.now c.requires c.args.i c.args.x
    (omega (arith, c.if-cell-cells.true, c.cells.ensures.exact, c.cell_of-cell.ensures.exact)))

pub returns-clause-exact : goal.returns-clause-exact
returns-clause-exact c =
    let list = c.args.seen.now in
    let units = c.args.units.now in
    let below : c.cell_of-cell.result < length list.groups = omega (arith, c.if-cell-cells.false, c.cells.ensures.exact, c.cell_of-cell.ensures.within) in
    subst (λ (us : List ℕ). slice_index us c.cell_of-cell.result ≡ units_of list units c.args.i c.args.x) (sym c.as_slice.ensures)
    (units_at_cell list c.letters.ensures.valid units c.requires c.args.i c.args.x c.cell_of-cell.result c.cell_of-cell.ensures.exact below)

pub returns-clause-few : goal.returns-clause-few
returns-clause-few c =
    let list = c.args.seen.now in
    let below : c.cell_of-cell.result < length list.groups = omega (arith, c.if-cell-cells.false, c.cells.ensures.exact, c.cell_of-cell.ensures.within) in
    subst (λ (us : List ℕ). slice_index us c.cell_of-cell.result ≤ 1000000000) (sym c.as_slice.ensures)
    (few_units list c.letters.ensures.valid c.args.units.now c.requires c.cell_of-cell.result below)
