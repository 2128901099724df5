use Rattle.std.proofs.Common.{◌==◌, arith, length, sym, ◌∙◌}
use Rattle.std.proofs.lemmas.Bool.{eq-eqb}
use Rattle.rp_orders.specs.OrderMixtures.{menu_at}
use Rattle.rp_orders.proofs.OrderLists.{first_at}
use Rattle.rp_orders.proofs.sums.place_of.Goals as goal

pub returns-then-menu-clause-exact : goal.returns-then-menu-clause-exact
returns-then-menu-clause-exact c =
    let list = c.args.seen.now in
    let n = c.loop-i.i in
    sym (first_at n (length list.menus) (λ j. menu_at list j == c.args.menu) c.loop-i.invariant
    (eq-eqb (menu_at list n) c.args.menu (sym c.menu.ensures ∙ c.if-menu.true))
    (omega (arith, c.loop-i-test.true, c.count-i-end.ensures.exact)))
