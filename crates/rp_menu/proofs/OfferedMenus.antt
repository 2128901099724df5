-- Menus with one more: where it stands, and what holds of each.
use Rattle.std.proofs.Common.{◌≡◌, ◌≢◌, ℕ, zero, suc, ◌+◌, ◌<◌, ◌≤◌, ◌==◌, ◌++◌, Bool, true, false, List, [], ◌∷◌, ◌⊎◌, inl, inr, length, slice_index, refl, sym, ap, subst, ◌∙◌, arith, length-append, if◌then◌else◌}
use Rattle.std.proofs.lemmas.Bool.{cases_eq, cases_lt}
use Rattle.std.proofs.lemmas.Bool.Decides.{nat_tests}
use Rattle.std.proofs.lemmas.List.{get_or_append_left}
use Rattle.std.proofs.Math.Seq.{get_or-append_seam}
use Rattle.rp_menu.specs.Cells.{place_in, offered}

pub place_at_most : (menus : List ℕ) (menu : ℕ) → place_in menus menu ≤ length menus
place_at_most [] menu = omega arith
place_at_most (m ∷ menus) menu = by (m == menu) (place_at_most menus menu)
  where
    by : (b : Bool) → place_in menus menu ≤ length menus → (if b then 0 else suc (place_in menus menu)) ≤ suc (length menus)
    by true h = omega arith
    by false h = omega (arith, h)

pub place_holds : (menus : List ℕ) (menu : ℕ) → place_in menus menu < length menus → slice_index menus (place_in menus menu) ≡ menu
place_holds [] menu inside = absurd (omega (arith, inside))
place_holds (m ∷ menus) menu inside = by (m == menu) refl (place_holds menus menu) inside
  where
    by : (b : Bool) → (m == menu) ≡ b → (place_in menus menu < length menus → slice_index menus (place_in menus menu) ≡ menu)
        → (if b then 0 else suc (place_in menus menu)) < suc (length menus) → slice_index (m ∷ menus) (if b then 0 else suc (place_in menus menu)) ≡ menu
    by true is rest within = grind (arith, nat_tests)
    by false is rest within = rest (omega (arith, within))

pub none_before : (menus : List ℕ) (menu k : ℕ) → k < place_in menus menu → slice_index menus k ≢ menu
none_before [] menu k before = absurd (omega (arith, before))
none_before (m ∷ menus) menu k before = by (m == menu) refl k (none_before menus menu) before
  where
    by : (b : Bool) → (m == menu) ≡ b → (i : ℕ) → ((j : ℕ) → j < place_in menus menu → slice_index menus j ≢ menu)
        → i < (if b then 0 else suc (place_in menus menu)) → slice_index (m ∷ menus) i ≢ menu
    by true is i rest within = absurd (omega (arith, within))
    by false is zero rest within = λ same. grind (arith, nat_tests, same)
    by false is (suc i) rest within = rest i (omega (arith, within))

-- the place is where the menu stands first
pub place_is : (menus : List ℕ) (menu k : ℕ) → k ≤ length menus → ((j : ℕ) → j < k → slice_index menus j ≢ menu) → (k < length menus → slice_index menus k ≡ menu) → k ≡ place_in menus menu
place_is menus menu k inside none here = elim (cases_lt k (place_in menus menu)) [
  | inl before ↦ absurd (none_before menus menu k before (here (omega (arith, before, place_at_most menus menu))))
  | inr behind ↦ elim (cases_lt (place_in menus menu) k) [
    | inl before ↦ absurd (none (place_in menus menu) before (place_holds menus menu (omega (arith, before, inside))))
    | inr same ↦ omega (arith, behind, same)
  ]
]

module _ (menus : List ℕ) (menu : ℕ) where
  pub new_menu : place_in menus menu ≡ length menus → offered menus menu ≡ menus ++ menu ∷ []
  new_menu is =
      let test : (place_in menus menu == length menus) ≡ true = grind (arith, nat_tests) in
      ap (λ b. if b then menus ++ menu ∷ [] else menus) test

  pub old_menu : place_in menus menu ≢ length menus → offered menus menu ≡ menus
  old_menu other =
      let test : (place_in menus menu == length menus) ≡ false = grind (arith, nat_tests) in
      ap (λ b. if b then menus ++ menu ∷ [] else menus) test

  one_more : length (menus ++ menu ∷ []) ≡ length menus + 1
  one_more = length-append menus (menu ∷ [])

  pub offered_at_most : length (offered menus menu) ≤ length menus + 1
  offered_at_most = elim (cases_eq (place_in menus menu) (length menus)) [
    | inl new ↦ rw (new_menu new) (omega (arith, one_more))
    | inr old ↦ rw (old_menu old) (omega arith)
  ]

  -- those before keep their places
  pub menu_kept : (i : ℕ) → i < length menus → (i < length (offered menus menu)) × (slice_index (offered menus menu) i ≡ slice_index menus i)
  menu_kept i inside = elim (cases_eq (place_in menus menu) (length menus)) [
    | inl new ↦ rw (new_menu new) (omega (arith, inside, one_more), get_or_append_left menus (menu ∷ []) 0 i inside)
    | inr old ↦ rw (old_menu old) (inside, refl)
  ]

  -- the one more stands at its place
  pub menu_there : (place_in menus menu < length (offered menus menu)) × (slice_index (offered menus menu) (place_in menus menu) ≡ menu)
  menu_there = elim (cases_eq (place_in menus menu) (length menus)) [
    | inl new ↦ rw (new_menu new, new) (omega (arith, one_more), get_or-append_seam menus menu [] 0)
    | inr old ↦
        let inside : place_in menus menu < length menus = omega (arith, old, place_at_most menus menu) in
        rw (old_menu old) (inside, place_holds menus menu inside)
  ]

  -- each place is one of those before, or that of the one more
  pub menu_either : (i : ℕ) → i < length (offered menus menu) → (i < length menus) ⊎ ((i ≡ length menus) × (i ≡ place_in menus menu))
  menu_either i inside = elim (cases_eq (place_in menus menu) (length menus)) [
    | inl new ↦
        let within : i < length menus + 1 = subst (λ n. i < n) one_more (subst (λ (xs : List ℕ). i < length xs) (new_menu new) inside) in
        elim (cases_lt i (length menus)) [
          | inl before ↦ inl before
          | inr last ↦ inr (omega (arith, within, last), omega (arith, within, last, new))
        ]
    | inr old ↦ inl (subst (λ (xs : List ℕ). i < length xs) (old_menu old) inside)
  ]

  -- what holds of each before and of the one more, holds of each
  pub each_menu : (Q : ℕ → Type 0) → ((i : ℕ) → i < length menus → Q (slice_index menus i)) → Q menu → (i : ℕ) → i < length (offered menus menu) → Q (slice_index (offered menus menu) i)
  each_menu Q each one i inside = elim (menu_either i inside) [
    | inl before ↦ subst Q (sym (menu_kept i before).1) (each i before)
    | inr last ↦ subst Q (sym (ap (slice_index (offered menus menu)) last.1 ∙ menu_there.1)) one
  ]

  -- no two are the same
  pub menus_apart : ((h i : ℕ) → h < i → i < length menus → slice_index menus h ≢ slice_index menus i)
      → (h i : ℕ) → h < i → i < length (offered menus menu) → slice_index (offered menus menu) h ≢ slice_index (offered menus menu) i
  menus_apart apart h i before inside = elim (menu_either i inside) [
    | inl old ↦ λ same. apart h i before old (sym (menu_kept h (omega (arith, before, old))).1 ∙ same ∙ (menu_kept i old).1)
    | inr last ↦ λ same. none_before menus menu h (omega (arith, before, last.1))
        (sym (menu_kept h (omega (arith, before, last.0))).1 ∙ same ∙ ap (slice_index (offered menus menu)) last.1 ∙ menu_there.1)
  ]
