-- Mixtures of strict orders and mixtures of those that pick a cell from every menu: an order of some weight picks cells
-- alone, since what is no cell has no units.
use Rattle.std.proofs.Common.{◌≡◌, ◌<◌, ◌≤◌, ◌+◌, ◌*◌, ◌^◌, ◌==◌, inl, inr, ℕ, zero, suc, Bool, true, false, List, [], ◌∷◌, Contains, length, slice_index, refl, sym, ap, subst, ◌∙◌, arith, if◌then◌else◌, w32}
use Rattle.std.specs.Int.{bit_at, trailing_zeros}
use Rattle.std.proofs.lemmas.Bool.{cases_lt, eq-eqb, ne_eqb}
use Rattle.std.proofs.lemmas.List.Sums.{sum_by-cons}
use Rattle.std.proofs.lemmas.Nat.Bits.{bit_at-trailing_zeros}
use Rattle.std.proofs.Math.Nat.{pow-le-pow_right}
use Rattle.rp_evidence.specs.declared.random.RandomPart.{RandomPart}
use Rattle.rp_evidence.specs.declared.random.RandomPart.TheVariants.{Mixture, Violated, Wide}
use Rattle.rp_evidence.specs.declared.random.Share.{Share}
use Rattle.rp_find_mixture.specs.MixtureVerdict.{ProvesMixture}
use Rattle.rp_menu.specs.MenuLists.{IsMenuList, MenuList, has_letter}
use Rattle.rp_menu.proofs.MenuLetters.{letter_within}
use Rattle.rp_orders.specs.MenuEvidence.{ProvesMenus, ProvesNoOrderMixture}
use Rattle.rp_orders.specs.OrderKinds.{PicksCells, cell_of, orders_over}
use Rattle.rp_orders.specs.OrderMixtures.{AreUnitsOf, IsOrderMixture, IsPartialOrderMixture, menu_at, units_of, weight_picking}
use Rattle.rp_orders.specs.Orders.{IsStrictOrder, picked}
use Rattle.rp_orders.proofs.OrderCells.{group_below, no_units, on_cell, picks_cell, units_of_cell}
use Rattle.rp_orders.proofs.OrderLists.{stands_somewhere}
use Rattle.rp_patch.specs.Kinds.{IsMixtureOf, IsPartialMixtureOf, Kinds, ProvesNoMixtureOf, weight_of, weight_using}
use Rattle.rp_patch.specs.declared.apportionment.Units.{Units}
use Rattle.rp_patch.proofs.KindWeights.{of_cons, on_cons}

-- ---- what orders pick

pub picked_has : (menu : ℕ) (order : List ℕ) (j : ℕ) → j < length order → has_letter menu (slice_index order j) ≡ true → has_letter menu (picked menu order) ≡ true
picked_has menu [] j l has = absurd (omega (arith, l))
picked_has menu (x ∷ order) j l has = by (picked_has menu order) (has_letter menu x) refl j l has
  where
    by : ((i : ℕ) → i < length order → has_letter menu (slice_index order i) ≡ true → has_letter menu (picked menu order) ≡ true) → (b : Bool) → has_letter menu x ≡ b → (i : ℕ) → i < length (x ∷ order) → has_letter menu (slice_index (x ∷ order) i) ≡ true
        → has_letter menu (if b then x else picked menu order) ≡ true
    by rest true here i m has = here
    by rest false here zero m has = absurd (cc (here, has))
    by rest false here (suc i) m has = rest i (omega (arith, m)) has

pub picking_cons : (menu x : ℕ) (part : Share) (parts : List Share) → weight_picking menu x (part ∷ parts) ≡ (if picked menu part.patches == x then part.weight else 0) + weight_picking menu x parts
picking_cons menu x part parts = sum_by-cons (λ (q : Share). if picked menu q.patches == x then q.weight else 0) part parts

-- a part has no more than those that pick the same letter together
weight_in : (menu : ℕ) (part : Share) (parts : List Share) → Contains parts part → part.weight ≤ weight_picking menu (picked menu part.patches) parts
weight_in menu part [] (n, l, e) = absurd (omega (arith, l))
weight_in menu part (q ∷ parts) (zero, l, e) =
    let on : (picked menu part.patches == picked menu part.patches) ≡ true = eq-eqb (picked menu part.patches) (picked menu part.patches) refl in
    let here : (if picked menu q.patches == picked menu part.patches then q.weight else 0) ≡ part.weight =
    subst (λ (p : Share). (if picked menu p.patches == picked menu part.patches then p.weight else 0) ≡ part.weight) (sym e) (ap (λ b. if b then part.weight else 0) on) in
    omega (arith, here, picking_cons menu (picked menu part.patches) q parts)
weight_in menu part (q ∷ parts) (suc n, l, e) =
    omega (arith, weight_in menu part parts (n, omega (arith, l), e), picking_cons menu (picked menu part.patches) q parts)

-- ---- parts of some weight

pub keep : ℕ → Share → List Share → List Share
keep zero part parts = parts
keep (suc w) part parts = part ∷ parts

pub kept : List Share → List Share
kept [] = []
kept (part ∷ parts) = keep part.weight part (kept parts)

pub kept_of : (parts : List Share) → weight_of (kept parts) ≡ weight_of parts
unfolding kept keep
kept_of [] = refl
kept_of (part ∷ parts) = by (kept_of parts) part.weight refl ∙ sym (of_cons part parts)
  where
    by : weight_of (kept parts) ≡ weight_of parts → (w : ℕ) → part.weight ≡ w → weight_of (keep w part (kept parts)) ≡ part.weight + weight_of parts
    by rest zero e = omega (arith, e, rest)
    by rest (suc w) e = omega (arith, of_cons part (kept parts), rest)

kept_picking : (menu x : ℕ) (parts : List Share) → weight_picking menu x (kept parts) ≡ weight_picking menu x parts
unfolding kept keep
kept_picking menu x [] = refl
kept_picking menu x (part ∷ parts) = by (kept_picking menu x parts) part.weight refl ∙ sym (picking_cons menu x part parts)
  where
    none : (b : Bool) → part.weight ≡ 0 → (if b then part.weight else 0) ≡ 0
    none true e = e
    none false e = refl

    by : weight_picking menu x (kept parts) ≡ weight_picking menu x parts → (w : ℕ) → part.weight ≡ w → weight_picking menu x (keep w part (kept parts)) ≡ (if picked menu part.patches == x then part.weight else 0) + weight_picking menu x parts
    by rest zero e = omega (arith, none (picked menu part.patches == x) e, rest)
    by rest (suc w) e = picking_cons menu x part (kept parts) ∙ ap (λ r. (if picked menu part.patches == x then part.weight else 0) + r) rest

kept_in : (parts : List Share) (part : Share) → Contains (kept parts) part → Contains parts part × (0 < part.weight)
unfolding kept keep
kept_in [] part = λ h. absurd (omega (arith, h.1))
kept_in (q ∷ parts) part = by (kept_in parts part) q.weight refl
  where
    later : Contains parts part × (0 < part.weight) → Contains (q ∷ parts) part × (0 < part.weight)
    later h = ((suc h.0.0, omega (arith, h.0.1), h.0.2), h.1)

    by : (Contains (kept parts) part → Contains parts part × (0 < part.weight)) → (w : ℕ) → q.weight ≡ w → Contains (keep w q (kept parts)) part
        → Contains (q ∷ parts) part × (0 < part.weight)
    by rest zero e h = later (rest h)
    by rest (suc w) e (zero, l, is) = ((0, omega arith, is), subst (λ (p : Share). 0 < p.weight) is (omega (arith, e)))
    by rest (suc w) e (suc n, l, is) = later (rest (n, omega (arith, l), is))

-- ---- both mixtures

module _ (list : MenuList) (is : IsMenuList list) (units : Units) (are : AreUnitsOf list units) where
  abbrev k : Kinds
  k = orders_over list units

  abbrev cells : ℕ
  cells = length list.groups

  abbrev group : ℕ → ℕ
  group = slice_index list.groups

  abbrev letter : ℕ → ℕ
  letter = slice_index list.chosen

  same_weight : (parts : List Share) (c : ℕ) → c < cells → weight_using k parts c ≡ weight_picking (menu_at list (group c)) (letter c) parts
  same_weight [] c l = refl
  same_weight (part ∷ parts) c l =
      on_cons k part parts c
      ∙ (λ z. (if picks_cell list is part.patches c l z then part.weight else 0) + same_weight parts c l z)
      ∙ sym (picking_cons (menu_at list (group c)) (letter c) part parts)

  -- orders that pick cells alone pick no letter that is none
  none_pick : (parts : List Share) → ((part : Share) → Contains parts part → PicksCells list part.patches) → (i x : ℕ) → i < length list.menus → cells ≤ cell_of list i x
      → weight_picking (menu_at list i) x parts ≡ 0
  none_pick [] picks i x l none = refl
  none_pick (part ∷ parts) picks i x l none =
      let rest = none_pick parts (λ q h. picks q (suc h.0, omega (arith, h.1), h.2)) i x l none in
      let here : (if picked (menu_at list i) part.patches == x then part.weight else 0) ≡ 0 = ap (λ b. if b then part.weight else 0)
      (ne_eqb (picked (menu_at list i) part.patches) x (λ e.
      let has = (picks part (0, omega arith, refl)).cell i l in
      let same = ap (cell_of list i) e in
      omega (arith, has, same, none))) in
      omega (arith, picking_cons (menu_at list i) x part parts, here, rest)

  -- at a letter that has a cell
  at_cell : (P : ℕ → ℕ → Type 0) (i x : ℕ) → cell_of list i x < cells → ((c : ℕ) → c < cells → P (group c) (letter c)) → P i x
  at_cell P i x l all =
      let on = on_cell list is i x l in
      subst (λ j. P j x) on.0 (subst (λ y. P (group (cell_of list i x)) y) on.1 (all (cell_of list i x) l))

  pub partial_orders : (den : ℕ) (parts : List Share) → IsPartialMixtureOf k den parts → IsPartialOrderMixture list units den parts
  partial_orders den parts partial = record {
    fraction = partial.fraction;
    orders = λ part h. (partial.kinds part h).strict;
    within = λ i x l has. elim (cases_lt (cell_of list i x) cells) [
      | inl m ↦ at_cell (λ i x. weight_picking (menu_at list i) x parts ≤ den * units_of list units i x) i x m (λ c c_in.
          let same = ap (λ u. den * u) (units_of_cell list is units are c c_in) in
          omega (arith, partial.within c c_in, same_weight parts c c_in, same))
      | inr g ↦ omega (arith, none_pick parts partial.kinds i x l g)
    ];
  }

  pub mixture_orders : (den : ℕ) (parts : List Share) → IsMixtureOf k den parts → IsOrderMixture list units den parts
  mixture_orders den parts exact = record {
    fraction = exact.fraction;
    orders = λ part h. (exact.kinds part h).strict;
    exact = λ i x l has. elim (cases_lt (cell_of list i x) cells) [
      | inl m ↦ at_cell (λ i x. weight_picking (menu_at list i) x parts ≡ den * units_of list units i x) i x m (λ c c_in.
          sym (same_weight parts c c_in) ∙ exact.exact c c_in ∙ ap (λ u. den * u) (sym (units_of_cell list is units are c c_in)))
      | inr g ↦ none_pick parts exact.kinds i x l g ∙ sym (ap (λ u. den * u) (no_units list is units are i x g) ∙ (let z : den * 0 ≡ 0 = omega arith in z))
    ];
  }

  -- every menu has a letter of those that there are
  some_letter : (i : ℕ) → i < length list.menus → (x : ℕ) × (x < list.letters) × (has_letter (menu_at list i) x ≡ true)
  some_letter i l =
      let some : 0 < menu_at list i = omega (arith, is.some_in_each i l) in
      let small = is.within_letters i l in
      let most : 2 ^ list.letters ≤ 2 ^ 6 = pow-le-pow_right {n = 2} (omega arith) {i = list.letters} {j = 6} (omega (arith, is.few_letters)) in
      let low = bit_at-trailing_zeros w32 (menu_at list i) some (omega (arith, small, most)) in
      let x = trailing_zeros w32 (menu_at list i) in
      let has : has_letter (menu_at list i) x ≡ true = eq-eqb (bit_at (menu_at list i) x) 1 low.1 in
      (x, letter_within (menu_at list i) list.letters x small has, has)

  order_picks : (order : List ℕ) → IsStrictOrder list.letters order → (i : ℕ) → i < length list.menus → has_letter (menu_at list i) (picked (menu_at list i) order) ≡ true
  order_picks order strict i l =
      let h = some_letter i l in
      let at = stands_somewhere list.letters (omega (arith, is.some_letters)) order strict h.0 h.1 in
      picked_has (menu_at list i) order at.0 (omega (arith, at.1, strict.of_all)) (subst (λ x. has_letter (menu_at list i) x ≡ true) (sym at.2) h.2)

  -- an order of some weight in a partial mixture picks a cell from every menu
  picks_of : (den : ℕ) (parts : List Share) → IsPartialOrderMixture list units den parts → (part : Share) → Contains parts part → 0 < part.weight → PicksCells list part.patches
  picks_of den parts partial part given some = record {
    strict = partial.orders part given;
    cell = λ i l.
        let x = picked (menu_at list i) part.patches in
        elim (cases_lt (cell_of list i x) cells) [
          | inl m ↦ m
          | inr g ↦
              let at_most = partial.within i x l (order_picks part.patches (partial.orders part given) i l) in
              let at_least = weight_in (menu_at list i) part parts given in
              let none : den * units_of list units i x ≡ 0 = ap (λ u. den * u) (no_units list is units are i x g) ∙ (let z : den * 0 ≡ 0 = omega arith in z) in
              absurd (omega (arith, at_most, at_least, none, some))
        ];
  }

  kept_kinds : (den : ℕ) (parts : List Share) → IsPartialOrderMixture list units den parts → (part : Share) → Contains (kept parts) part → PicksCells list part.patches
  kept_kinds den parts partial part h = let old = kept_in parts part h in picks_of den parts partial part old.0 old.1

  at_its_cell : (den : ℕ) (parts : List Share) (c : ℕ) → c < cells → weight_using k (kept parts) c ≡ weight_picking (menu_at list (group c)) (letter c) parts
  at_its_cell den parts c l = same_weight (kept parts) c l ∙ kept_picking (menu_at list (group c)) (letter c) parts

  pub partial_kinds : (den : ℕ) (parts : List Share) → IsPartialOrderMixture list units den parts → IsPartialMixtureOf k den (kept parts)
  partial_kinds den parts partial = record {
    fraction = partial.fraction;
    kinds = kept_kinds den parts partial;
    within = λ c l.
        let same = ap (λ u. den * u) (units_of_cell list is units are c l) in
        omega (arith, partial.within (group c) (letter c) (group_below list is c l) (is.from_menus c l), at_its_cell den parts c l, same);
  }

  pub mixture_kinds : (den : ℕ) (parts : List Share) → IsOrderMixture list units den parts → IsMixtureOf k den (kept parts)
  mixture_kinds den parts exact = record {
    fraction = exact.fraction;
    kinds = kept_kinds den parts (record { fraction = exact.fraction; orders = exact.orders; within = λ i x l has. omega (arith, exact.exact i x l has) });
    exact = λ c l. at_its_cell den parts c l ∙ exact.exact (group c) (letter c) (group_below list is c l) (is.from_menus c l) ∙ ap (λ u. den * u) (units_of_cell list is units are c l);
  }

  -- what is proved of these kinds is proved of the menus
  pub no_orders : (den : ℕ) (parts : List Share) (weights : List ℕ) → ProvesNoMixtureOf k den parts weights → ProvesNoOrderMixture list units den parts weights
  no_orders den parts weights proves = record {
    none = λ h. proves.none (h.0, kept h.1, mixture_kinds h.0 h.1 h.2);
    partial = partial_orders den parts proves.partial;
    greatest = λ d other partial.
        let most = proves.greatest d (kept other) (partial_kinds d other partial) in
        let same = ap (λ w. w * den) (kept_of other) in
        omega (arith, most, same);
    one_each = proves.one_each;
    weighs = proves.weighs;
  }

  pub proves_menus : (part : RandomPart) → ProvesMixture k part → ProvesMenus list units part
  proves_menus (Mixture den parts) proves = mixture_orders den parts proves
  proves_menus (Violated den parts weights) proves = no_orders den parts weights proves
  proves_menus (Wide step) proves = tt
