use Rattle.std.proofs.Common.{◌≡◌, ◌≤◌, ℕ, All, List, length, subst, sym, ap, arith, ◌∙◌}
use Rattle.rp_menu.specs.Cells.{cells_with, menu_row_at, menus_below}
use Rattle.rp_menu.specs.Denotation.{cells_stage}
use Rattle.rp_menu.specs.declared.cells.Cell.{Cell}
use Rattle.rp_menu.proofs.CountedRecords.{counts_so_far, few_so_far, too_many}
use Rattle.rp_menu.proofs.cells.tally_of.Goals as goal

pub count-requires-clause-few : goal.count-requires-clause-few
count-requires-clause-few c =
    let few = few_so_far c.args.menu_rows.now c.loop-t.t in
    let same = ap length c.loop-t.invariant.menus in
    omega (arith, few, same, c.loop-t-test.true, c.requires.few)

pub count-requires-clause-bounded : goal.count-requires-clause-bounded
count-requires-clause-bounded c =
    let menu_rows = c.args.menu_rows.now in
    let within : c.loop-t.t ≤ 4096 = omega (arith, c.loop-t-test.true, c.requires.few) in
    subst (λ (xs : List Cell). All (λ (cell : Cell). cell.count ≤ 40959995904) xs) (sym c.loop-t.invariant.cells)
    (counts_so_far menu_rows c.loop-t.t within (λ k before. c.requires.bounded k (omega (arith, before, c.loop-t-test.true))))

pub returns-then-len-clause-refused : goal.returns-then-len-clause-refused
returns-then-len-clause-refused c = λ _.
    let menu_rows = c.args.menu_rows.now in
    let counted = c.in_ok-count.ensures.cells
    ∙ ap (λ (menus : List ℕ). cells_with menus c.loop-t.cells.items (menu_row_at menu_rows c.loop-t.t)) c.loop-t.invariant.menus
    ∙ ap (λ (cells : List Cell). cells_with (menus_below menu_rows c.loop-t.t) cells (menu_row_at menu_rows c.loop-t.t)) c.loop-t.invariant.cells in
    rw c.number_of.ensures (too_many menu_rows c.loop-t.t c.count.new.cells.items c.loop-t-test.true c.loop-t.invariant.faultless counted (omega (arith, c.if-len.true, c.len.ensures)))

pub returns-clause-faultless : goal.returns-clause-faultless
unfolding cells_stage
returns-clause-faultless c =
    let all : c.loop-t.t ≡ length c.args.menu_rows.now = omega (arith, c.loop-t-test.false, c.loop-t.auto.t-end) in
    rw (← all) c.loop-t.invariant.faultless
