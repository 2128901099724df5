-- The units of a letter on a menu, by the menu's place, and turns of the loops over letters and menus.
use Rattle.std.proofs.Common.{◌≡◌, ◌<◌, ◌≤◌, ◌+◌, ◌*◌, ◌^◌, ◌==◌, inl, inr, ℕ, Bool, true, false, length, slice_index, ℤ, pos, negsuc, ◌+ℤ◌, refl, sym, ap, subst, ◌∙◌, arith, if◌then◌else◌}
use Rattle.std.specs.Int.{w128}
use mir.Val.{SFits, to_z, of_z}
use Rattle.std.specs.Int.RustNames.{unsigned_abs}
use Rattle.std.proofs.lemmas.Bool.{cases_lt, eq-eqb, eqb-true}
use Rattle.std.proofs.lemmas.Int.{ints, to_z-of_z}
use Rattle.std.proofs.Math.Nat.{pow-le-pow_right}
use Rattle.rp_farkas.specs.Total.{total}
use Rattle.rp_farkas.proofs.Totals.{total-suc}
use Rattle.rp_farkas.proofs.SumSteps.{abs_sum}
use Rattle.rp_table.specs.Sums.{sum_below}
use Rattle.rp_table.proofs.SumsBelow.{sum_none}
use Rattle.rp_menu.specs.MenuLists.{IsMenuList, MenuList}
use Rattle.rp_orders.specs.MenuSums.{IsSeen}
use Rattle.rp_orders.specs.OrderKinds.{cell_of, first_with}
use Rattle.rp_orders.specs.OrderMixtures.{AreUnitsOf, menu_at, units_of}
use Rattle.rp_orders.proofs.OrderCells.{group_below, no_units, on_cell, sum_alone, units_of_cell}
use Rattle.rp_orders.proofs.OrderLists.{first_passes, some_with}
use Rattle.rp_patch.specs.declared.apportionment.Units.{Units}

module _ (list : MenuList) (is : IsMenuList list) (units : Units) (are : AreUnitsOf list units) where
  abbrev count : ℕ
  count = length list.menus

  abbrev units_at : ℕ → ℕ → ℕ → ℕ
  units_at menu x i = if menu_at list i == menu then units_of list units i x else 0

  -- those of a menu that was chosen from
  pub units_there : (menu x h : ℕ) → h < count → menu_at list h ≡ menu → sum_below count (units_at menu x) ≡ units_of list units h x
  units_there menu x h l here =
      sum_alone (units_at menu x) count h l others ∙ at_it (menu_at list h == menu) refl
    where
      at_it : (b : Bool) → (menu_at list h == menu) ≡ b → (if b then units_of list units h x else 0) ≡ units_of list units h x
      at_it true e = refl
      at_it false e = absurd (let yes = eq-eqb (menu_at list h) menu here in cc)

      off : (i : ℕ) (b : Bool) → (menu_at list i == menu) ≡ b → i < count → ¬ (i ≡ h) → (if b then units_of list units i x else 0) ≡ 0
      off i true e below other =
          let same : menu_at list i ≡ menu_at list h = eqb-true (menu_at list i) menu e ∙ sym here in
          elim (cases_lt i h) [
            | inl before ↦ absurd (is.apart i h before l same)
            | inr g ↦ absurd (is.apart h i (omega (arith, g, other)) below (sym same))
          ]
      off i false e below other = refl

      others : (i : ℕ) → i < count → ¬ (i ≡ h) → units_at menu x i ≡ 0
      others i below other = off i (menu_at list i == menu) refl below other

  -- by the place of the menu
  pub units_at_place : (menu x place : ℕ) → place ≡ first_with count (λ i. menu_at list i == menu) → units_of list units place x ≡ sum_below count (units_at menu x)
  units_at_place menu x place first = elim (cases_lt place count) [
    | inl l ↦
        let passes = subst (λ i. (menu_at list i == menu) ≡ true) (sym first) (first_passes count (λ i. menu_at list i == menu) (omega (arith, l, first))) in
        sym (units_there menu x place l (eqb-true (menu_at list place) menu passes))
    | inr g ↦
        no_units list is units are place x (no_cell g)
        ∙ sym (sum_none (units_at menu x) count (λ i l. off i (menu_at list i == menu) refl l g))
  ]
    where
      no_cell : count ≤ place → length list.groups ≤ cell_of list place x
      no_cell g = elim (cases_lt (cell_of list place x) (length list.groups)) [
        | inl m ↦
            let on = on_cell list is place x m in
            let below = group_below list is (cell_of list place x) m in
            absurd (omega (arith, on.0, below, g))
        | inr there ↦ there
      ]

      off : (i : ℕ) (b : Bool) → (menu_at list i == menu) ≡ b → i < count → count ≤ place → (if b then units_of list units i x else 0) ≡ 0
      off i true e l g = let least = some_with count i (λ i. menu_at list i == menu) l e in absurd (omega (arith, least, l, g, first))
      off i false e l g = refl

  -- by the letter's cell
  pub units_at_cell : (i x c : ℕ) → c ≡ cell_of list i x → c < length list.groups → slice_index units.units c ≡ units_of list units i x
  units_at_cell i x c is_cell l =
      let on = on_cell list is i x (subst (λ d. d < length list.groups) is_cell l) in
      let group : slice_index list.groups c ≡ i = ap (slice_index list.groups) is_cell ∙ on.0 in
      let letter : slice_index list.chosen c ≡ x = ap (slice_index list.chosen) is_cell ∙ on.1 in
      sym (units_of_cell list is units are c l) ∙ (λ z. units_of list units (group z) (letter z))

-- a menu of some of the letters, of which there are at most six
pub menu_fits : (letters menu : ℕ) → letters ≤ 6 → menu < 2 ^ letters → menu < 64
menu_fits letters menu few small =
    let most : 2 ^ letters ≤ 2 ^ 6 = pow-le-pow_right {n = 2} (omega arith) {i = letters} {j = 6} few in
    omega (arith, small, most)

-- a menu from which something was chosen, by its place
module _ (list : MenuList) (menu place : ℕ) (first : place ≡ first_with (length list.menus) (λ i. menu_at list i == menu)) where
  pub is_seen : place < length list.menus → IsSeen list menu
  is_seen l =
      let passes = subst (λ i. (menu_at list i == menu) ≡ true) (sym first) (first_passes (length list.menus) (λ i. menu_at list i == menu) (omega (arith, l, first))) in
      (place, l, eqb-true (menu_at list place) menu passes)

  pub not_seen : length list.menus ≤ place → ¬ IsSeen list menu
  not_seen g seen =
      let least = some_with (length list.menus) seen.0 (λ i. menu_at list i == menu) seen.1 (eq-eqb (menu_at list seen.0) menu seen.2) in
      omega (arith, least, first, g, seen.1)

-- a turn of the loop over menus
sum_more : (f : ℕ → ℤ) (i : ℕ) (s z : ℤ) → (s ≡ total i f) × (unsigned_abs s ≤ i * 1000000000) → z ≡ f i → unsigned_abs z ≤ 1000000000
    → (s +ℤ z ≡ total (i + 1) f) × (unsigned_abs (s +ℤ z) ≤ (i + 1) * 1000000000)
sum_more f i s z so_far is small = (
  ap (λ x. x +ℤ z) so_far.0 ∙ ap (λ x. total i f +ℤ x) is ∙ sym (total-suc i f),
  omega (arith, abs_sum s z, so_far.1, small),
)

pub no_sum : (f : ℕ → ℤ) → (pos 0 ≡ total 0 f) × (unsigned_abs (pos 0) ≤ 0 * 1000000000)
unfolding total
no_sum f = (refl, omega arith)

fits_128 : (z : ℤ) → unsigned_abs z ≤ 64000000000 → SFits w128 z
fits_128 (pos m) small = record { sfits = omega (arith, ints) }
fits_128 (negsuc m) small = record { sfits = omega (arith, ints) }

-- the same, read back from the bits of a sum
pub sum_kept : (f : ℕ → ℤ) (i bits : ℕ) (z : ℤ) → i < 64 → (to_z w128 bits ≡ total i f) × (unsigned_abs (to_z w128 bits) ≤ i * 1000000000)
    → z ≡ f i → unsigned_abs z ≤ 1000000000
    → (to_z w128 (of_z w128 (to_z w128 bits +ℤ to_z w128 (of_z w128 z))) ≡ total (i + 1) f)
    × (unsigned_abs (to_z w128 (of_z w128 (to_z w128 bits +ℤ to_z w128 (of_z w128 z)))) ≤ (i + 1) * 1000000000)
sum_kept f i bits z few so_far is small =
    let more = sum_more f i (to_z w128 bits) z so_far is small in
    let inner : to_z w128 (of_z w128 z) ≡ z = to_z-of_z w128 z (fits_128 z (omega (arith, small))) in
    let outer : to_z w128 (of_z w128 (to_z w128 bits +ℤ z)) ≡ to_z w128 bits +ℤ z = to_z-of_z w128 (to_z w128 bits +ℤ z) (fits_128 (to_z w128 bits +ℤ z) (omega (arith, more.1, few))) in
    let same : to_z w128 (of_z w128 (to_z w128 bits +ℤ to_z w128 (of_z w128 z))) ≡ to_z w128 bits +ℤ z = ap (λ y. to_z w128 (of_z w128 (to_z w128 bits +ℤ y))) inner ∙ outer in
    subst (λ s. (s ≡ total (i + 1) f) × (unsigned_abs s ≤ (i + 1) * 1000000000)) (sym same) more
