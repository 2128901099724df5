use Rattle.std.proofs.Common.{◌≡◌, length, ◌∙◌, sym, arith}
use Rattle.rp_menu.proofs.OfferedMenus.{place_is}
use Rattle.rp_menu.proofs.cells.place_in.Goals as goal

pub returns-then-menus-i-clause-exact : goal.returns-then-menus-i-clause-exact
returns-then-menus-i-clause-exact c =
    place_is c.args.menus.now c.args.menu c.loop-i.i (omega (arith, c.loop-i.auto.i-end)) c.loop-i.invariant (λ _. c.if-menus-i.true)

pub returns-clause-exact : goal.returns-clause-exact
returns-clause-exact c =
    let menus = c.args.menus.now in
    let all : c.loop-i.i ≡ length menus = omega (arith, c.loop-i-test.false, c.loop-i.auto.i-end) in
    sym all ∙ place_is menus c.args.menu c.loop-i.i c.loop-i.auto.i-end c.loop-i.invariant (λ inside. absurd (omega (arith, inside, all)))
