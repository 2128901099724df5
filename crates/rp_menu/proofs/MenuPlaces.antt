-- How many menus there are, and which a cell is on, by the cells' groups.
use Rattle.std.proofs.Common.{◌≡◌, ℕ, zero, suc, ◌+◌, ◌-◌, ◌<◌, ◌≤◌, ◌⊎◌, List, inl, inr, length, slice_index, subst, arith}
use Rattle.rp_patch.specs.Apportionment.{AreGrouped, groups_in}
use Rattle.rp_menu.specs.MenuLists.{MenuList, IsMenuList}
use Rattle.rp_menu.proofs.MenuLetters.{letter_within}

module _ (groups counts : List ℕ) (are : AreGrouped groups counts) where
  -- the group of a place is at most its number
  low : (i : ℕ) → i < length groups → slice_index groups i ≤ i
  low zero inside = omega (arith, are.first)
  low (suc i) inside =
      let before = low i (omega arith) in
      let next = are.next i (omega arith) in
      let here : i + 1 ≡ suc i = omega arith in
      elim (subst (λ k. (slice_index groups k ≡ slice_index groups i) ⊎ (slice_index groups k ≡ slice_index groups i + 1)) here next) [
        | inl same ↦ omega (arith, same, before)
        | inr more ↦ omega (arith, more, before)
      ]

  -- and it does not fall
  rising : (i d : ℕ) → i + d < length groups → slice_index groups i ≤ slice_index groups (i + d)
  rising i zero inside = subst (λ k. slice_index groups i ≤ slice_index groups k) {x = i} {y = i + 0} (omega arith) (omega arith)
  rising i (suc d) inside =
      let before = rising i d (omega arith) in
      let next = are.next (i + d) (omega arith) in
      let here : i + d + 1 ≡ i + suc d = omega arith in
      elim (subst (λ k. (slice_index groups k ≡ slice_index groups (i + d)) ⊎ (slice_index groups k ≡ slice_index groups (i + d) + 1)) here next) [
        | inl same ↦ omega (arith, same, before)
        | inr more ↦ omega (arith, more, before)
      ]

  pub few_groups : groups_in groups ≤ length groups
  few_groups =
      let last = low (length groups - 1) (omega (arith, are.some)) in
      omega (arith, last, are.some)

  pub within_groups : (i : ℕ) → i < length groups → slice_index groups i < groups_in groups
  within_groups i inside =
      let up = rising i (length groups - 1 - i) (omega arith) in
      let last : i + (length groups - 1 - i) ≡ length groups - 1 = omega arith in
      let most = subst (λ k. slice_index groups i ≤ slice_index groups k) last up in
      omega (arith, most)

module _ (list : MenuList) (is : IsMenuList list) where
  -- there are no more menus than cells
  pub few_menus : length list.menus ≤ 64
  few_menus = omega (arith, few_groups list.groups list.counts is.grouped, is.on_every, is.few_cells)

  -- the letter of a cell is one of those that there are
  pub letter_below : (k : ℕ) → k < length list.groups → slice_index list.chosen k < list.letters
  letter_below k inside =
      let group = within_groups list.groups list.counts is.grouped k inside in
      letter_within (slice_index list.menus (slice_index list.groups k)) list.letters (slice_index list.chosen k)
      (is.within_letters (slice_index list.groups k) (omega (arith, group, is.on_every))) (is.from_menus k inside)
