use Rattle.std.proofs.Common.{◌≡◌, ℕ, List, map, refl, ap, ◌∙◌}
use Rattle.rp_menu.specs.MenuLists.{MenuList}
use Rattle.rp_menu.specs.declared.cells.Cell.{Cell}
use Rattle.rp_menu.proofs.read.fill_menus.Goals as goal

abbrev listed : ℕ → List ℕ → List ℕ → List ℕ → List ℕ → MenuList
listed letters menus groups chosen counts = record { letters = letters; menus = menus; groups = groups; chosen = chosen; counts = counts }

same_list : (letters : ℕ) (menus g x n groups chosen counts : List ℕ) → g ≡ groups → x ≡ chosen → n ≡ counts → listed letters menus g x n ≡ listed letters menus groups chosen counts
same_list letters menus g x n groups chosen counts a b e = rw (a, b, e) refl

pub make-requires : goal.make-requires
make-requires c =
    let groups = c.in_ok-groups.ensures ∙ ap (map (λ (cell : Cell). cell.group)) c.as_slice.ensures.value in
    let chosen = c.in_ok-chosen.ensures ∙ ap (map (λ (cell : Cell). cell.letter)) c.as_slice-2.ensures.value in
    let counts = c.in_ok-counts.ensures ∙ ap (map (λ (cell : Cell). cell.count)) c.as_slice-3.ensures.value in
    rw (groups, chosen, counts) c.requires

pub returns : goal.returns
returns c =
    let groups = c.in_ok-groups.ensures ∙ ap (map (λ (cell : Cell). cell.group)) c.as_slice.ensures.value in
    let chosen = c.in_ok-chosen.ensures ∙ ap (map (λ (cell : Cell). cell.letter)) c.as_slice-2.ensures.value in
    let counts = c.in_ok-counts.ensures ∙ ap (map (λ (cell : Cell). cell.count)) c.as_slice-3.ensures.value in
    c.make.ensures ∙ same_list c.args.letters c.args.tally.menus.items _ _ _ _ _ _ groups chosen counts
