use Rattle.std.proofs.Common.{arith}
use Rattle.rp_orders.proofs.LeastLemmas.{next_menu, small_menu}
use Rattle.rp_orders.proofs.least.least_with.Goals as goal

pub returns : goal.returns
returns c =
    let a = c.args in
    let l = c.loop-letter in
    next_menu a.seen.now a.units.now a.menu l.letter l.least l.invariant c.loop-letter-test.false
    (small_menu a.seen.now.letters a.menu (omega (arith, c.letters.ensures.exact, c.letters.ensures.few)) c.requires.within)
