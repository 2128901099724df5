-- Where the data are complete and a mixture of strict orders makes the choices, every sum is at least 0: each order adds
-- its weight where the letters that it does not place before the letter are those of the menu, and else nothing.
use Rattle.std.proofs.Common.{◌≡◌, ◌≢◌, ◌<◌, ◌≤◌, ◌+◌, ◌*◌, ◌^◌, ◌-◌, ◌%◌, ◌==◌, inl, inr, ℕ, zero, suc, Bool, true, false, List, [], ◌∷◌, Contains, length, slice_index, ℤ, pos, negsuc, neg_ℤ, ◌+ℤ◌, ◌*ℤ◌, ◌≤ℤ◌, bit_and, refl, sym, ap, subst, ◌∙◌, arith, if◌then◌else◌}
use Rattle.std.proofs.lemmas.Bool.{cases_eq, eq-eqb, eqb-true, ne_eqb}
use Rattle.std.proofs.lemmas.Int.{ints}
use Rattle.std.proofs.Math.IntN.{pos-*ℤ-pos}
use Rattle.rp_evidence.specs.declared.random.Share.{Share}
use Rattle.rp_farkas.proofs.Integers.{plus_times, times_strict}
use Rattle.rp_farkas.proofs.Totals.{total-same, total-scale}
use Rattle.rp_table.specs.Sums.{sum_below}
use Rattle.rp_menu.specs.MenuLists.{IsMenuList, MenuList, has_letter}
use Rattle.rp_menu.proofs.MenuLetters.{letter_within}
use Rattle.rp_evidence.specs.declared.random.RandomPart.{RandomPart}
use Rattle.rp_orders.specs.MenuEvidence.{ShowsSums}
use Rattle.rp_orders.specs.MenuSums.{AreComplete, holds, signed, size_of, sum_at, units_on}
use Rattle.rp_orders.specs.OrderKinds.{orders_over}
use Rattle.rp_orders.specs.OrderMixtures.{AreUnitsOf, IsOrderMixture, menu_at, units_of, weight_picking}
use Rattle.rp_orders.specs.Orders.{picked}
use Rattle.rp_orders.proofs.AlternatingSums.{added, holds_all, parts_sum}
use Rattle.rp_orders.proofs.OrderCells.{are_whole, term_within}
use Rattle.rp_orders.proofs.OrderLists.{stands_somewhere}
use Rattle.rp_orders.proofs.OrderWeights.{kept, kept_of, mixture_kinds, picked_has, picking_cons}
use Rattle.rp_orders.proofs.SumLemmas.{units_there}
use Rattle.rp_patch.specs.Kinds.{weight_of}
use Rattle.rp_patch.specs.declared.apportionment.Units.{Units}
use Rattle.rp_patch.proofs.KindWeights.{mixture_total, of_cons}

-- ---- menus of one letter

two_within : (f : ℕ → ℕ) (n h k : ℕ) → h < n → k < n → h ≢ k → f h + f k ≤ sum_below n f
two_within f zero h k l m d = absurd (omega (arith, l))
two_within f (suc n) h k l m d = elim (cases_eq h n) [
  | inl e ↦ (let same = ap f e in let rest = term_within f n k (omega (arith, m, d, e)) in omega (arith, same, rest))
  | inr p ↦ elim (cases_eq k n) [
    | inl e ↦ (let same = ap f e in let rest = term_within f n h (omega (arith, l, p)) in omega (arith, same, rest))
    | inr q ↦ (let rest = two_within f n h k (omega (arith, l, p)) (omega (arith, m, q)) d in omega (arith, rest))
  ]
]

abbrev one_if : ℕ → ℕ → ℕ
one_if menu x = if has_letter menu x then 1 else 0

counted : (menu x : ℕ) → has_letter menu x ≡ true → one_if menu x ≡ 1
counted menu x has = ap (λ b. if b then 1 else 0) has

some_size : (n menu x : ℕ) → menu < 2 ^ n → has_letter menu x ≡ true → 1 ≤ size_of n menu
some_size n menu x small has = omega (arith, term_within (one_if menu) n x (letter_within menu n x small has), counted menu x has)

alone : (n menu x y : ℕ) → menu < 2 ^ n → size_of n menu ≡ 1 → has_letter menu x ≡ true → has_letter menu y ≡ true → y ≡ x
alone n menu x y small one has also = elim (cases_eq y x) [
  | inl e ↦ e
  | inr d ↦
      let both = two_within (one_if menu) n y x (letter_within menu n y small also) (letter_within menu n x small has) d in
      absurd (omega (arith, both, one, counted menu x has, counted menu y also))
]

all_pick : (menu x : ℕ) (parts : List Share) → ((part : Share) → Contains parts part → picked menu part.patches ≡ x) → weight_picking menu x parts ≡ weight_of parts
all_pick menu x [] picks = refl
all_pick menu x (part ∷ parts) picks =
    let rest = all_pick menu x parts (λ q h. picks q (suc h.0, omega (arith, h.1), h.2)) in
    let here : (if picked menu part.patches == x then part.weight else 0) ≡ part.weight =
    ap (λ b. if b then part.weight else 0) (eq-eqb (picked menu part.patches) x (picks part (0, omega arith, refl))) in
    omega (arith, picking_cons menu x part parts, of_cons part parts, rest, here)

-- ---- numbers times a denominator

none_times : (den : ℕ) → pos 0 ≡ pos 0 *ℤ pos den
none_times den = let none : 0 ≡ 0 * den = omega arith in ap pos none ∙ sym (pos-*ℤ-pos 0 den)

signed_times : (even : Bool) (u den : ℕ) → signed even (den * u) ≡ signed even u *ℤ pos den
signed_times true u den = let turn : den * u ≡ u * den = omega arith in ap pos turn ∙ sym (pos-*ℤ-pos u den)
signed_times false u den =
    let turn : den * u ≡ u * den = omega arith in
    let known : pos (den * u) ≡ pos u *ℤ pos den = ap pos turn ∙ sym (pos-*ℤ-pos u den) in
    let none : neg_ℤ (pos u) +ℤ pos u ≡ pos 0 = omega (arith, ints) in
    let both = plus_times (neg_ℤ (pos u)) (pos u) (pos den) in
    let nothing = ap (λ z. z *ℤ pos den) none in
    omega (arith, ints, known, both, nothing, none_times den)

at_least_none : (s : ℤ) (den : ℕ) → 0 < den → pos 0 ≤ℤ (s *ℤ pos den) → pos 0 ≤ℤ s
at_least_none (pos m) den some h = omega (arith, ints)
at_least_none (negsuc m) den some h =
    let below = times_strict (negsuc m) (pos 0) den some (omega (arith, ints)) in
    absurd (omega (arith, ints, below, h, none_times den))

-- ---- the law

module _ (list : MenuList) (is : IsMenuList list) (units : Units) (are : AreUnitsOf list units) (complete : AreComplete list)
    (den : ℕ) (parts : List Share) (mixture : IsOrderMixture list units den parts) where
  abbrev letters : ℕ
  letters = list.letters

  whole : weight_of parts ≡ den * units.total
  whole = sym (kept_of parts) ∙ mixture_total (orders_over list units) (are_whole list is units are) den (kept parts) (mixture_kinds list is units are den parts mixture)

  module _ (x : ℕ) (inside : x < letters) where
    stands : (part : Share) → Contains parts part → (j : ℕ) × (j < length part.patches) × (slice_index part.patches j ≡ x)
    stands part given =
        let strict = mixture.orders part given in
        let at = stands_somewhere letters (omega (arith, inside)) part.patches strict x inside in
        (at.0, omega (arith, at.1, strict.of_all), at.2)

    abbrev on_menus : ℕ → ℕ
    on_menus b = sum_below (length list.menus) (λ i. if menu_at list i == b then units_of list units i x else 0)

    abbrev even : ℕ → ℕ → Bool
    even a b = (size_of letters b - size_of letters a) % 2 == 0

    -- so much of the orders picks the letter
    made : (b : ℕ) → b < 2 ^ letters → has_letter b x ≡ true → weight_picking b x parts ≡ den * units_on list units b x
    made b small has = elim (cases_eq (size_of letters b) 1) [
      | inl one ↦
          all_pick b x parts (λ part given. (let at = stands part given in
          alone letters b x (picked b part.patches) small one has
          (picked_has b part.patches at.0 at.1 (subst (λ y. has_letter b y ≡ true) (sym at.2) has))))
          ∙ whole
          ∙ sym (ap (λ e. den * (if e then units.total else on_menus b)) (eq-eqb (size_of letters b) 1 one))
      | inr more ↦
          let seen = complete b small (omega (arith, more, some_size letters b x small has)) in
          let exact = mixture.exact seen.0 x seen.1 (subst (λ m. has_letter m x ≡ true) (sym seen.2) has) in
          subst (λ m. weight_picking m x parts ≡ den * units_of list units seen.0 x) seen.2 exact
          ∙ sym (ap (λ u. den * u) (units_there list is units are b x seen.0 seen.1 seen.2))
          ∙ sym (ap (λ e. den * (if e then units.total else on_menus b)) (ne_eqb (size_of letters b) 1 more))
    ]

    pub sum_made : (a : ℕ) → a < 2 ^ letters → has_letter a x ≡ true → pos 0 ≤ℤ sum_at list units x a
    sum_made a small there =
        let scaled = total-scale (2 ^ letters) (added letters a x small there (λ b. units_on list units b x)) (pos den) in
        let each = total-same (2 ^ letters) (added letters a x small there (λ b. weight_picking b x parts))
        (λ b. added letters a x small there (λ b. units_on list units b x) b *ℤ pos den) (λ b l. one b l (holds b a) refl) in
        let known = parts_sum letters a x small there parts stands in
        at_least_none (sum_at list units x a) den mixture.fraction (subst (λ z. pos 0 ≤ℤ z) (each ∙ scaled) known)
      where
        one : (b : ℕ) → b < 2 ^ letters → (h : Bool) → holds b a ≡ h
            → (if h then signed (even a b) (weight_picking b x parts) else pos 0) ≡ (if h then signed (even a b) (units_on list units b x) else pos 0) *ℤ pos den
        one b l true is_held =
            let has = holds_all b a (eqb-true (bit_and b a) a is_held) x there in
            ap (signed (even a b)) (made b l has) ∙ signed_times (even a b) (units_on list units b x) den
        one b l false is_held = none_times den

pub shows_sums : (list : MenuList) → IsMenuList list → (units : Units) → AreUnitsOf list units → (part : RandomPart) → ShowsSums list units part
shows_sums list is units are part = record {
  none_negative = λ complete m x a small there. sum_made list is units are complete m.0 m.1 m.2 x (letter_within a list.letters x small there) a small there;
}
