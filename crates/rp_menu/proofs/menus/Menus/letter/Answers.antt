use Rattle.std.proofs.Common.{◌≡◌, ◌<◌, length, slice_index, subst, sym, arith}
use Rattle.std.proofs.lemmas.List.{get_or_read}
use Rattle.rp_menu.specs.MenuLists.{MenuList}
use Rattle.rp_menu.proofs.MenuPlaces.{letter_below}
use Rattle.rp_menu.proofs.menus.Menus.letter.Goals as goal

pub returns-clause-within : goal.returns-clause-within
returns-clause-within c =
    let same = c.self.view_is in
    let cell : c.args.cell < length c.self.inside.groups.items = subst (λ (list : MenuList). c.args.cell < length list.groups) (sym same) c.requires in
    let inside : c.args.cell < length c.self.inside.chosen.items = omega (arith, cell, c.self.invariant.all_chosen) in
    let is : c.index.result.now ≡ slice_index c.self.inside.chosen.items c.args.cell =
    get_or_read c.self.inside.chosen.items c.args.cell c.index.result.now inside c.index.ensures 0 in
    let low = letter_below _ c.self.invariant c.args.cell cell in
    subst (λ (list : MenuList). c.index.result.now < list.letters) same (rw is low)
