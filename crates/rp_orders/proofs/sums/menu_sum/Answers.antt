use Rattle.std.proofs.Common.{◌≡◌, ◌^◌, ◌≤ℤ◌, pos, ap, arith, subst, sym, ◌∙◌}
use Rattle.rp_farkas.specs.Total.{total}
use Rattle.rp_menu.proofs.MenuLetters.{letter_within}
use Rattle.rp_orders.specs.InnerSums.{added_at}
use Rattle.rp_orders.proofs.MixtureSums.{sum_made}
use Rattle.rp_orders.proofs.SumLemmas.{menu_fits, no_sum, sum_kept}
use Rattle.rp_orders.proofs.sums.menu_sum.Goals as goal

pub loop-more-init : goal.loop-more-init
loop-more-init c = no_sum (added_at c.args.seen.now c.args.units.now c.args.x c.args.menu)

pub added-sum-requires-clause-within : goal.added-sum-requires-clause-within
added-sum-requires-clause-within c = menu_fits c.args.seen.now.letters c.args.menu (omega (arith, c.letters.ensures.few, c.letters.ensures.exact)) c.requires.within

pub added-sum-requires-clause-more : goal.added-sum-requires-clause-more
added-sum-requires-clause-more c =
    menu_fits c.letters-2.result c.loop-more.more c.letters-2.ensures.few (omega (arith, c.loop-more-test.true, c.pow-more-end.ensures))

pub loop-more-preserved : goal.loop-more-preserved
loop-more-preserved c =
    let few = menu_fits c.letters-2.result c.loop-more.more c.letters-2.ensures.few (omega (arith, c.loop-more-test.true, c.pow-more-end.ensures)) in
    sum_kept (added_at c.args.seen.now c.args.units.now c.args.x c.args.menu) c.loop-more.more c.loop-more.sum-bits c.added-sum.result few
    c.loop-more.invariant c.added-sum.ensures.exact c.added-sum.ensures.few

pub returns-clause-mixtures : goal.returns-clause-mixtures
returns-clause-mixtures c mixture =
    let list = c.args.seen.now in
    let units = c.args.units.now in
    let all : c.loop-more.more ≡ 2 ^ list.letters = omega (arith, c.loop-more-test.false, c.loop-more.auto.more-end, c.pow-more-end.ensures) ∙ ap (λ k. 2 ^ k) c.letters-2.ensures.exact in
    let inside = letter_within c.args.menu list.letters c.args.x c.requires.within c.requires.letter in
    let least = sum_made list c.letters.ensures.valid units c.requires.units c.requires.complete mixture.0 mixture.1 mixture.2 c.args.x inside c.args.menu c.requires.within c.requires.letter in
    subst (λ s. pos 0 ≤ℤ s) (sym (c.loop-more.invariant.0 ∙ ap (λ n. total n (added_at list units c.args.x c.args.menu)) all)) least
