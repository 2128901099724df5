use Rattle.std.proofs.Common.{◌≡◌, ◌<◌, ◌≤◌, ◌^◌, inl, inr, length, ap, arith, sym, subst, ◌∙◌}
use Rattle.std.proofs.lemmas.Bool.{cases_lt}
use Rattle.rp_orders.specs.MenuSums.{IsSeen, size_of}
use Rattle.rp_orders.proofs.SumLemmas.{is_seen, menu_fits, not_seen}
use Rattle.rp_orders.proofs.sums.is_complete.Goals as goal
use Rattle.rp_orders.proofs.sums.is_complete.Goals.{else-size_of-ge2-via-then-size_of-ge2+else-place_of-count, else-size_of-ge2-via-else-size_of-ge2}

pub size_of-requires : goal.size_of-requires
size_of-requires c =
    menu_fits c.letters-letters.result c.loop-menu.menu c.letters-letters.ensures.few (omega (arith, c.loop-menu-test.true, c.pow-menu-end.ensures))

pub returns-then-place_of-count : goal.returns-then-place_of-count
returns-then-place_of-count c =
    let list = c.args.seen.now in
    let menu = c.loop-menu.menu in
    let letters = c.letters-letters.ensures.exact in
    let within : menu < 2 ^ list.letters = subst (λ k. menu < 2 ^ k) letters (omega (arith, c.loop-menu-test.true, c.pow-menu-end.ensures)) in
    let size : c.size_of.result ≡ size_of list.letters menu = c.size_of.ensures.exact ∙ ap (λ k. size_of k menu) letters in
    let least : length list.menus ≤ c.place_of.result = omega (arith, c.if-place_of-count.true, c.count.ensures.exact) in (
      λ is. absurd cc,
      λ complete. absurd (not_seen list menu c.place_of.result c.place_of.ensures.exact least (complete menu within (omega (arith, size, c.if-size_of-ge2.true)))),
    )

pub loop-menu-preserved : goal.loop-menu-preserved
loop-menu-preserved c m below two =
    elim (cases_lt m c.loop-menu.menu) [
      | inl before ↦ c.loop-menu.invariant m before two
      | inr g ↦
          let here : m ≡ c.loop-menu.menu = omega (arith, g, below) in
          elim c.else-size_of-ge2.branch [
            | else-size_of-ge2-via-then-size_of-ge2+else-place_of-count w ↦
                let inside : w.place_of.result < length c.args.seen.now.menus = omega (arith, w.if-place_of-count.false, w.count.ensures.exact, w.place_of.ensures.within) in
                subst (IsSeen c.args.seen.now) (sym here) (is_seen c.args.seen.now c.loop-menu.menu w.place_of.result w.place_of.ensures.exact inside)
            | else-size_of-ge2-via-else-size_of-ge2 w ↦
                let size : size_of c.letters-letters.result m ≡ c.size_of.result = ap (size_of c.letters-letters.result) here ∙ sym c.size_of.ensures.exact in
                absurd (omega (arith, two, size, w.if-size_of-ge2.false))
          ]
    ]
