-- Cells in their order make groups that units can be shared out in.
use Rattle.std.proofs.Common.{◌≡◌, ℕ, ◌+◌, ◌-◌, ◌<◌, ◌≤◌, ◌==◌, List, ◌⊎◌, inl, inr, length, map, slice_index, sum_by, sym, ap, subst, ◌∙◌, arith, if◌then◌else◌}
use Rattle.std.proofs.lemmas.Bool.{cases_eq, cases_lt}
use Rattle.std.proofs.lemmas.List.{get_or-map, length-map}
use Rattle.rp_table.specs.Sums.{sum_below}
use Rattle.rp_table.proofs.SumsBelow.{sum_below-same}
use Rattle.rp_patch.specs.Apportionment.{AreGrouped, counts_in, grouped, groups_in}
use Rattle.rp_patch.proofs.ChosenLaws.{sum_of_list}
use Rattle.rp_menu.specs.Cells.{cell_at}
use Rattle.rp_menu.specs.declared.cells.Cell.{Cell}
use Rattle.rp_menu.proofs.CountedCells.{Each, InOrder, cell_on, each_at, on, order_at}

abbrev pub groups : List Cell → List ℕ
groups cells = map (λ (cell : Cell). cell.group) cells

abbrev pub letters : List Cell → List ℕ
letters cells = map (λ (cell : Cell). cell.letter) cells

abbrev pub counts : List Cell → List ℕ
counts cells = map (λ (cell : Cell). cell.count) cells

module _ (cells : List Cell) where
  pub all_groups : length (groups cells) ≡ length cells
  all_groups = length-map cells (λ (cell : Cell). cell.group)

  pub all_letters : length (letters cells) ≡ length cells
  all_letters = length-map cells (λ (cell : Cell). cell.letter)

  pub all_counts : length (counts cells) ≡ length cells
  all_counts = length-map cells (λ (cell : Cell). cell.count)

  pub group_at : (k : ℕ) → k < length cells → slice_index (groups cells) k ≡ (cell_at cells k).group
  group_at k inside = get_or-map (λ (cell : Cell). cell.group) cells k _ 0 inside

  pub letter_at : (k : ℕ) → k < length cells → slice_index (letters cells) k ≡ (cell_at cells k).letter
  letter_at k inside = get_or-map (λ (cell : Cell). cell.letter) cells k _ 0 inside

  pub count_at : (k : ℕ) → k < length cells → slice_index (counts cells) k ≡ (cell_at cells k).count
  count_at k inside = get_or-map (λ (cell : Cell). cell.count) cells k _ 0 inside

  -- the counts of a group together
  pub total_of_group : (j : ℕ) → counts_in (grouped (groups cells) (counts cells)) j ≡ sum_by (on j) cells
  total_of_group j =
      let same : (i : ℕ) → i < length cells → (if slice_index (groups cells) i == j then slice_index (counts cells) i else 0) ≡ on j (cell_at cells i) =
      λ i inside. ap (λ g. if g == j then slice_index (counts cells) i else 0) (group_at i inside)
      ∙ ap (λ n. if (cell_at cells i).group == j then n else 0) (count_at i inside) in
      ap (λ n. sum_below n (λ i. if slice_index (groups cells) i == j then slice_index (counts cells) i else 0)) all_groups
      ∙ sum_below-same _ _ (length cells) same
      ∙ sum_of_list (on j) (record { group = 0; letter = 0; count = 0 }) cells

module _ (cells : List Cell) (n : ℕ) (order : InOrder cells) (below : Each (λ g x. g < n) cells)
    (some_on : (j : ℕ) → j < n → 1 ≤ sum_by (on j) cells) where
  abbrev group_of : ℕ → ℕ
  group_of k = (cell_at cells k).group

  group_below : (k : ℕ) → k < length cells → group_of k < n
  group_below k inside = each_at (λ g x. g < n) cells k below inside

  rises : (h k : ℕ) → h < k → k < length cells → group_of h ≤ group_of k
  rises h k before inside = elim (order_at cells h k order before inside) [
    | inl earlier ↦ omega (arith, earlier)
    | inr same ↦ omega (arith, same.0)
  ]

  never_falls : (h k : ℕ) → h ≤ k → k < length cells → group_of h ≤ group_of k
  never_falls h k before inside = elim (cases_eq h k) [
    | inl same ↦ subst (λ i. group_of h ≤ group_of i) same (omega arith)
    | inr other ↦ rises h k (omega (arith, before, other)) inside
  ]

  -- the first group of a cell is 0
  first_group : 0 < length cells → group_of 0 ≡ 0
  first_group some =
      let low = group_below 0 some in
      let there = cell_on 0 cells (some_on 0 (omega (arith, low))) in
      let up = never_falls 0 there.0 (omega arith) there.1 in
      omega (arith, up, there.2)

  -- the last is the last menu's
  last_group : 0 < length cells → group_of (length cells - 1) + 1 ≡ n
  last_group some =
      let low = group_below (length cells - 1) (omega (arith, some)) in
      let there = cell_on (n - 1) cells (some_on (n - 1) (omega (arith, low))) in
      let up = never_falls there.0 (length cells - 1) (omega (arith, there.1)) (omega (arith, some)) in
      omega (arith, up, there.2, low)

  -- groups rise by 1 at most
  next_group : (i : ℕ) → i + 1 < length cells → (group_of (i + 1) ≡ group_of i) ⊎ (group_of (i + 1) ≡ group_of i + 1)
  next_group i inside = elim (cases_lt (group_of i + 1) (group_of (i + 1))) [
    | inl past ↦
        let low = group_below (i + 1) inside in
        let there = cell_on (group_of i + 1) cells (some_on (group_of i + 1) (omega (arith, past, low))) in
        elim (cases_lt i there.0) [
          | inl later ↦
              let up = never_falls (i + 1) there.0 (omega (arith, later)) there.1 in
              absurd (omega (arith, up, there.2, past))
          | inr earlier ↦
              let up = never_falls there.0 i earlier (omega (arith, inside)) in
              absurd (omega (arith, up, there.2))
        ]
    | inr near ↦
        let up = rises i (i + 1) (omega arith) inside in
        elim (cases_eq (group_of (i + 1)) (group_of i)) [
          | inl same ↦ inl same
          | inr other ↦ inr (omega (arith, near, up, other))
        ]
  ]

  pub groups_are : 1 ≤ length cells → groups_in (groups cells) ≡ n
  groups_are some =
      let last : slice_index (groups cells) (length (groups cells) - 1) ≡ group_of (length cells - 1) =
      ap (λ k. slice_index (groups cells) (k - 1)) (all_groups cells) ∙ group_at cells (length cells - 1) (omega (arith, some)) in
      omega (arith, last, last_group some)

  pub are_grouped : 1 ≤ length cells → length cells ≤ 64 → ((j : ℕ) → j < n → sum_by (on j) cells < 68719476736) → AreGrouped (groups cells) (counts cells)
  are_grouped some few small = record {
    same = all_groups cells ∙ sym (all_counts cells);
    some = omega (arith, some, all_groups cells);
    few = omega (arith, few, all_groups cells);
    first = group_at cells 0 (omega (arith, some)) ∙ first_group (omega (arith, some));
    next = λ i inside.
        let within : i + 1 < length cells = omega (arith, inside, all_groups cells) in
        let here = group_at cells i (omega (arith, within)) in
        let there = group_at cells (i + 1) within in
        elim (next_group i within) [
          | inl same ↦ inl (there ∙ same ∙ sym here)
          | inr more ↦ inr (there ∙ more ∙ ap (λ g. g + 1) (sym here))
        ];
    positive = λ j inside. rw (total_of_group cells j) (some_on j (omega (arith, inside, groups_are some)));
    small = λ j inside. rw (total_of_group cells j) (small j (omega (arith, inside, groups_are some)));
  }
