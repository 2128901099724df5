use Rattle.std.proofs.Common.{◌≡◌, nat_lt, length, sym, arith, ap, ◌∙◌}
use Rattle.rp_num.specs.Below.{any_below}
use Rattle.rp_menu.specs.Cells.{menu_row_at}
use Rattle.rp_menu.proofs.CountedRecords.{none_chosen, one_chosen}
use Rattle.rp_menu.proofs.read.check_times.Goals as goal

pub returns-then-menu_rows-t-gt0-clause-fine : goal.returns-then-menu_rows-t-gt0-clause-fine
returns-then-menu_rows-t-gt0-clause-fine c = one_chosen c.args.menu_rows.now c.loop-t.t c.loop-t-test.true c.if-menu_rows-t-gt0.true

pub returns-clause-refused : goal.returns-clause-refused
returns-clause-refused c = λ _.
    let all : c.loop-t.t ≡ length c.args.menu_rows.now = omega (arith, c.loop-t-test.false, c.loop-t.auto.t-end) in
    none_chosen c.args.menu_rows.now (ap (λ n. any_below n (λ t. nat_lt 0 (menu_row_at c.args.menu_rows.now t).times)) (sym all) ∙ c.loop-t.invariant)
