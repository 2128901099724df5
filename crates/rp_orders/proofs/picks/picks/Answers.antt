use Rattle.std.proofs.Common.{◌≡◌, ◌==◌, List, ℕ, ap, arith, slice_index, sym, ◌∙◌}
use Rattle.rp_orders.specs.OrderMixtures.{menu_at}
use Rattle.rp_orders.specs.Orders.{picked}
use Rattle.rp_orders.proofs.OrderCells.{group_below, menu_small, picks_cell}
use Rattle.rp_orders.proofs.picks.picks.Goals as goal

pub pick-requires : goal.pick-requires
pick-requires c =
    let list = c.args.seen.now in
    let small = menu_small list c.letters.ensures.valid (slice_index list.groups c.args.cell) (group_below list c.letters.ensures.valid c.args.cell c.requires) in
    let same : c.menu-menu.result ≡ menu_at list (slice_index list.groups c.args.cell) = c.menu-menu.ensures ∙ ap (λ (gs : List ℕ). menu_at list (slice_index gs c.args.cell)) c.groups.ensures.exact in
    omega (arith, small, same)

pub returns : goal.returns
returns c =
    let list = c.args.seen.now in
    let same : c.menu-menu.result ≡ menu_at list (slice_index list.groups c.args.cell) = c.menu-menu.ensures ∙ ap (λ (gs : List ℕ). menu_at list (slice_index gs c.args.cell)) c.groups.ensures.exact in
    let letter : c.pick.result ≡ picked (menu_at list (slice_index list.groups c.args.cell)) c.args.order.now = c.pick.ensures ∙ ap (λ m. picked m c.args.order.now) same in
    (λ z. letter z == c.letter.ensures.exact z) ∙ sym (picks_cell list c.letters.ensures.valid c.args.order.now c.args.cell c.requires)
