-- The cells that orders pick: one of each menu, where an order picks a cell from every menu.
use Rattle.std.proofs.Common.{◌≡◌, ◌≢◌, ◌<◌, ◌≤◌, ◌^◌, ◌==◌, ◌&&◌, inl, inr, ℕ, zero, suc, pos, Bool, true, false, [], List, length, slice_index, slice_index_or, refl, sym, ap, subst, ◌∙◌, arith, if◌then◌else◌}
use Rattle.std.proofs.lemmas.Bool.{cases_eq, cases_lt, eq-eqb, eqb-true, ne_eqb, and_parts}
use Rattle.std.proofs.lemmas.Int.{ints}
use Rattle.std.proofs.Math.Nat.{pow-le-pow_right}
use Rattle.std.specs.Int.RustNames.{unsigned_abs}
use Rattle.rp_farkas.specs.Limits.{IsWithinLimits, largest_entry, most_columns}
use Rattle.rp_num.proofs.BelowLemmas.{get-listed, length-listed}
use Rattle.rp_table.specs.Sums.{sum_below}
use Rattle.rp_table.proofs.SumsBelow.{sum_none}
use Rattle.rp_menu.specs.MenuLists.{IsMenuList, MenuList}
use Rattle.rp_orders.specs.OrderKinds.{PicksCells, cell_of, cells_picked, orders_over}
use Rattle.rp_orders.specs.OrderMixtures.{AreUnitsOf, menu_at, units_of}
use Rattle.rp_orders.specs.Orders.{picked}
use Rattle.rp_orders.proofs.OrderLists.{first_passes, some_with}
use Rattle.rp_patch.specs.Kinds.{AreWhole, UsesOneOfEach, mixture_program, uses}
use Rattle.rp_patch.specs.declared.apportionment.Units.{Units}
use Rattle.rp_patch.proofs.GroupFacts.{group_within}
use Rattle.rp_patch.proofs.KindWeights.{uses_none, uses_some}

-- one term alone among the first
pub sum_alone : (f : ℕ → ℕ) (n h : ℕ) → h < n → ((i : ℕ) → i < n → i ≢ h → f i ≡ 0) → sum_below n f ≡ f h
sum_alone f zero h l others = absurd (omega (arith, l))
sum_alone f (suc n) h l others = elim (cases_eq n h) [
  | inl e ↦
      let none : sum_below n f ≡ 0 = sum_none f n (λ i below. others i (omega (arith, below)) (λ is. omega (arith, is, e, below))) in
      let here : f n ≡ f h = ap f e in
      omega (arith, none, here)
  | inr d ↦
      let rest = sum_alone f n h (omega (arith, l, d)) (λ i below. others i (omega (arith, below))) in
      let last = others n (omega arith) d in
      omega (arith, rest, last)
]

pub term_within : (f : ℕ → ℕ) (n h : ℕ) → h < n → f h ≤ sum_below n f
term_within f zero h l = absurd (omega (arith, l))
term_within f (suc n) h l = elim (cases_eq h n) [
  | inl e ↦ (let same = ap f e in omega (arith, same))
  | inr d ↦ omega (arith, term_within f n h (omega (arith, l, d)))
]

one_or_none : (b : Bool) → unsigned_abs (if b then pos 1 else pos 0) ≤ largest_entry
one_or_none true = omega arith
one_or_none false = omega arith

module _ (list : MenuList) (is : IsMenuList list) where
  abbrev cells : ℕ
  cells = length list.groups

  abbrev group : ℕ → ℕ
  group = slice_index list.groups

  abbrev letter : ℕ → ℕ
  letter = slice_index list.chosen

  abbrev test : ℕ → ℕ → ℕ → Bool
  test i x c = (group c == i) && (letter c == x)

  tested : (c : ℕ) → test (group c) (letter c) c ≡ true
  tested c = (λ z. eq-eqb (group c) (group c) refl z && eq-eqb (letter c) (letter c) refl z)

  pub group_below : (c : ℕ) → c < cells → group c < length list.menus
  group_below c l = omega (arith, group_within list.groups list.counts is.grouped c l, is.on_every)

  -- where a letter has a cell, that is on its menu and has that letter
  pub on_cell : (i x : ℕ) → cell_of list i x < cells → (group (cell_of list i x) ≡ i) × (letter (cell_of list i x) ≡ x)
  on_cell i x l =
      let h = and_parts (group (cell_of list i x) == i) (letter (cell_of list i x) == x) (first_passes cells (test i x) l) in
      (eqb-true (group (cell_of list i x)) i h.0, eqb-true (letter (cell_of list i x)) x h.1)

  -- a cell is the one of its menu and its letter
  pub its_cell : (c : ℕ) → c < cells → cell_of list (group c) (letter c) ≡ c
  its_cell c l =
      let first = cell_of list (group c) (letter c) in
      let least : first ≤ c = some_with cells c (test (group c) (letter c)) l (tested c) in
      let on = on_cell (group c) (letter c) (omega (arith, least, l)) in
      elim (cases_lt first c) [
        | inl before ↦ absurd (is.once_each first c before l on.0 on.1)
        | inr g ↦ omega (arith, least, g)
      ]

  pub picked_at : (order : List ℕ) (i : ℕ) → i < length list.menus → slice_index (cells_picked list order) i ≡ cell_of list i (picked (menu_at list i) order)
  picked_at order i l = get-listed (λ i. cell_of list i (picked (menu_at list i) order)) (length list.menus) i 0 l

  pub as_many : (order : List ℕ) → length (cells_picked list order) ≡ length list.menus
  as_many order = length-listed (λ i. cell_of list i (picked (menu_at list i) order)) (length list.menus)

  -- an order picks a cell where it picks the cell's letter from the cell's menu
  pub picks_cell : (order : List ℕ) (c : ℕ) → c < cells → uses (cells_picked list order) c ≡ (picked (menu_at list (group c)) order == letter c)
  picks_cell order c l = elim (cases_eq (picked (menu_at list (group c)) order) (letter c)) [
    | inl e ↦
        let below = group_below c l in
        let there : slice_index (cells_picked list order) (group c) ≡ c = picked_at order (group c) below ∙ ap (cell_of list (group c)) e ∙ its_cell c l in
        subst (λ d. uses (cells_picked list order) d ≡ true) there (uses_some (cells_picked list order) (group c) (omega (arith, as_many order, below)))
        ∙ sym (eq-eqb (picked (menu_at list (group c)) order) (letter c) e)
    | inr d ↦
        uses_none (cells_picked list order) c (λ j j_in at.
        let inside : j < length list.menus = omega (arith, j_in, as_many order) in
        let here : cell_of list j (picked (menu_at list j) order) ≡ c = sym (picked_at order j inside) ∙ at in
        let on = on_cell j (picked (menu_at list j) order) (omega (arith, here, l)) in
        let same_group : group c ≡ j = sym (ap group here) ∙ on.0 in
        let same_letter : letter c ≡ picked (menu_at list j) order = sym (ap letter here) ∙ on.1 in
        d (ap (λ i. picked (menu_at list i) order) same_group ∙ sym same_letter))
        ∙ sym (ne_eqb (picked (menu_at list (group c)) order) (letter c) d)
  ]

  module _ (units : Units) where
    pub one_of_each : (order : List ℕ) → PicksCells list order → UsesOneOfEach (orders_over list units) (cells_picked list order)
    one_of_each order picks = record {
      one_each = as_many order;
      cell = λ j l. subst (λ c. c < cells) (sym (picked_at order j l)) (picks.cell j l);
      in_its_group = λ j l. ap group (picked_at order j l) ∙ (on_cell j (picked (menu_at list j) order) (picks.cell j l)).0;
    }

    module _ (are : AreUnitsOf list units) where
      pub are_whole : AreWhole (orders_over list units)
      are_whole = record {
        some_groups = omega (arith, is.on_every);
        in_groups = group_below;
        filled = λ j l. are.filled j (omega (arith, l, is.on_every));
        one_of_each = one_of_each;
      }

      -- the units of a cell are those of its letter on its menu
      pub units_of_cell : (c : ℕ) → c < cells → units_of list units (group c) (letter c) ≡ slice_index units.units c
      units_of_cell c l =
          sum_alone (λ d. if test (group c) (letter c) d then slice_index units.units d else 0) cells c l others
          ∙ ap (λ b. if b then slice_index units.units c else 0) (tested c)
        where
          off : (d : ℕ) (b : Bool) → test (group c) (letter c) d ≡ b → d < cells → d ≢ c → (if b then slice_index units.units d else 0) ≡ 0
          off d true on d_in other =
              let h = and_parts (group d == group c) (letter d == letter c) on in
              let first = eqb-true (group d) (group c) h.0 in
              let second = eqb-true (letter d) (letter c) h.1 in
              absurd (other (sym (its_cell d d_in) ∙ (λ z. cell_of list (first z) (second z)) ∙ its_cell c l))
          off d false isnt d_in other = refl

          others : (d : ℕ) → d < cells → d ≢ c → (if test (group c) (letter c) d then slice_index units.units d else 0) ≡ 0
          others d d_in other = off d (test (group c) (letter c) d) refl d_in other

      -- a letter that is no cell has none
      pub no_units : (i x : ℕ) → cells ≤ cell_of list i x → units_of list units i x ≡ 0
      no_units i x none = sum_none (λ d. if test i x d then slice_index units.units d else 0) cells (λ d l. off d (test i x d) refl l)
        where
          off : (d : ℕ) (b : Bool) → test i x d ≡ b → d < cells → (if b then slice_index units.units d else 0) ≡ 0
          off d true on l = let least = some_with cells d (test i x) l on in absurd (omega (arith, least, l, none))
          off d false isnt l = refl

      -- a cell has no more than the total
      pub few_units : (c : ℕ) → c < cells → slice_index units.units c ≤ 1000000000
      few_units c l =
          let below = group_below c l in
          let here = term_within (λ d. if group d == group c then slice_index units.units d else 0) cells c l in
          let term : (if group c == group c then slice_index units.units c else 0) ≡ slice_index units.units c = ap (λ b. if b then slice_index units.units c else 0) (eq-eqb (group c) (group c) refl) in
          let all = are_whole.filled (group c) below in
          omega (arith, here, term, all, are.few)

      -- the program of any of these orders is within the limits
      pub within_limits : (orders : List (List ℕ)) → length orders ≤ most_columns → IsWithinLimits (mixture_program (orders_over list units) orders)
      within_limits orders few = record {
        rows_at_most = omega (arith, is.few_cells);
        cols_at_most = omega (arith, few);
        a_bounded = λ i j i_in j_in. one_or_none (uses (cells_picked list (slice_index_or orders j [])) i);
        b_bounded = λ i i_in. let u = few_units i i_in in omega (arith, ints, u);
        c_bounded = λ j j_in. omega arith;
        b_not_negative = λ i i_in. omega (arith, ints);
      }

  -- a menu is one of the letters that there are
  pub menu_small : (i : ℕ) → i < length list.menus → menu_at list i < 64
  menu_small i l =
      let small = is.within_letters i l in
      let most : 2 ^ list.letters ≤ 2 ^ 6 = pow-le-pow_right {n = 2} (omega arith) {i = list.letters} {j = 6} (omega (arith, is.few_letters)) in
      omega (arith, small, most)
