-- Turns of the loops over digits, letters and lists.
use Rattle.std.proofs.Common.{◌≡◌, ◌≢◌, ◌<◌, ◌≤◌, ◌+◌, ◌-◌, ◌*◌, ◌^◌, ◌==◌, ◌&&◌, ◌++◌, add-one, inl, inr, ℕ, zero, suc, Bool, true, false, not, List, [], ◌∷◌, Contains, length, length-append, drop, take, set, slice_index, refl, sym, ap, subst, ◌∙◌, arith, lit≤}
use Rattle.std.specs.Cmp.Lexicographic.{slice_cmp}
use Rattle.std.specs.List.{AllByRecursion}
use Rattle.std.specs.List.Sorted.{IsStrictlySortedBy}
use Rattle.std.specs.Ordering.{nat_cmp}
use Rattle.std.specs.declared.cmp.Ordering.TheVariants.{Less}
use Rattle.std.proofs.lemmas.Bool.{cases_eq, cases_lt, eq-eqb, ne_eqb}
use Rattle.std.proofs.lemmas.List.{map_push}
use Rattle.std.proofs.lemmas.List.Elements.{Contains-append_left, Contains-push, Contains-push_cases}
use Rattle.rp_num.proofs.BelowLemmas.{get-listed, length-listed}
use Rattle.rp_table.specs.Sums.{sum_below}
use Rattle.rp_menu.specs.MenuLists.{MenuList}
use Rattle.rp_orders.specs.InnerLists.{digits, first_missing, listed_order}
use Rattle.rp_orders.specs.InnerOrders.{AppendsKind, AreListedBelow, orders_of}
use Rattle.rp_orders.specs.OrderKinds.{PicksCells, cell_of, cells_picked}
use Rattle.rp_orders.specs.OrderMixtures.{menu_at}
use Rattle.rp_orders.specs.Orders.{picked}
use Rattle.rp_orders.specs.declared.orders.Order.{Order}
use Rattle.rp_orders.proofs.OrderLists.{is_listed, length-digits, lists_rise}
use Rattle.rp_patch.specs.Kinds.{AreAllOf, cells_weight}

-- ---- powers

pub small_power : (n : ℕ) → 1 ≤ n → n ≤ 6 → n ^ (n - 1) ≤ 7776
small_power n some few = elim (cases_eq n 6) [
  | inl e ↦ subst (λ m. m ^ (m - 1) ≤ 7776) (sym e) (lit≤ tt)
  | inr a ↦ elim (cases_eq n 5) [
    | inl e ↦ subst (λ m. m ^ (m - 1) ≤ 7776) (sym e) (lit≤ tt)
    | inr b ↦ elim (cases_eq n 4) [
      | inl e ↦ subst (λ m. m ^ (m - 1) ≤ 7776) (sym e) (lit≤ tt)
      | inr c ↦ elim (cases_eq n 3) [
        | inl e ↦ subst (λ m. m ^ (m - 1) ≤ 7776) (sym e) (lit≤ tt)
        | inr d ↦ elim (cases_eq n 2) [
          | inl e ↦ subst (λ m. m ^ (m - 1) ≤ 7776) (sym e) (lit≤ tt)
          | inr f ↦ let one : n ≡ 1 = omega (arith, some, few, a, b, c, d, f) in subst (λ m. m ^ (m - 1) ≤ 7776) (sym one) (lit≤ tt)
        ]
      ]
    ]
  ]
]

-- ---- digits that are written from the last on

-- ---- the list of orders

all_more : (P : List ℕ → Type 0) (xs : List (List ℕ)) (y : List ℕ) → AllByRecursion P xs → P y → AllByRecursion P (xs ++ y ∷ [])
all_more P [] y all here = (here, tt)
all_more P (x ∷ xs) y all here = (all.0, all_more P xs y all.1 here)

sorted_more : (xs : List (List ℕ)) (y : List ℕ) → IsStrictlySortedBy (slice_cmp nat_cmp) xs → ((x : List ℕ) → Contains xs x → slice_cmp nat_cmp x y ≡ Less) → IsStrictlySortedBy (slice_cmp nat_cmp) (xs ++ y ∷ [])
unfolding IsStrictlySortedBy
sorted_more [] y sorted less = (tt, tt)
sorted_more (x ∷ xs) y sorted less = (
  all_more (λ z. slice_cmp nat_cmp x z ≡ Less) xs y sorted.0 (less x (0, omega arith, refl)),
  sorted_more xs y sorted.1 (λ z h. less z (suc h.0, omega (arith, h.1), h.2)),
)

module _ (list : MenuList) (some : 0 < list.letters) where
  abbrev at : ℕ → List ℕ
  at = listed_order list.letters

  nothing : IsStrictlySortedBy (slice_cmp nat_cmp) (orders_of [])
  unfolding IsStrictlySortedBy
  nothing = tt

  pub none_listed : AreListedBelow list 0 []
  none_listed = record {
    few = omega arith;
    rising = nothing;
    just_these = λ order. (λ h. absurd (omega (arith, h.1)), λ h. absurd (omega (arith, h.1.1)));
  }

  -- one list more
  pub one_more : (n : ℕ) (old new : List Order) → n < list.letters ^ (list.letters - 1) → AreListedBelow list n old → AppendsKind list (at n) old new → AreListedBelow list (n + 1) new
  one_more n old new within so_far (inl (kind, is)) = subst (λ os. AreListedBelow list (n + 1) os) (sym is) (record {
    few = omega (arith, length-append old (record { letters = at n } ∷ []), so_far.few);
    rising = subst (λ os. IsStrictlySortedBy (slice_cmp nat_cmp) os) (sym pushed)
        (sorted_more (orders_of old) (at n) so_far.rising (λ x h.
        let f = (so_far.just_these x).0 h in
        subst (λ y. slice_cmp nat_cmp y (at n) ≡ Less) f.1.2 (lists_rise list.letters some f.1.0 n f.1.1 within)));
    just_these = λ order. (
      λ h. elim (Contains-push_cases (orders_of old) (at n) order (subst (λ os. Contains os order) pushed h)) [
        | inl o ↦ (let f = (so_far.just_these order).0 o in (f.0, (f.1.0, omega (arith, f.1.1), f.1.2)))
        | inr e ↦ (subst (λ o. PicksCells list o) e kind, (n, omega arith, e))
      ],
      λ h. subst (λ os. Contains os order) (sym pushed) (elim (cases_lt h.1.0 n) [
        | inl l ↦ Contains-append_left (orders_of old) (at n ∷ []) order ((so_far.just_these order).1 (h.0, (h.1.0, l, h.1.2)))
        | inr g ↦
            let same : h.1.0 ≡ n = omega (arith, g, h.1.1) in
            let is_last : at n ≡ order = sym (ap at same) ∙ h.1.2 in
            subst (λ o. Contains (orders_of old ++ at n ∷ []) o) is_last (Contains-push (orders_of old) (at n))
      ]),
    );
  })
    where
      pushed : orders_of (old ++ record { letters = at n } ∷ []) ≡ orders_of old ++ at n ∷ []
      pushed = map_push (λ (order : Order). order.letters) old (record { letters = at n })
  one_more n old new within so_far (inr (not, is)) = subst (λ os. AreListedBelow list (n + 1) os) (sym is) (record {
    few = omega (arith, so_far.few);
    rising = so_far.rising;
    just_these = λ order. (
      λ h. let f = (so_far.just_these order).0 h in (f.0, (f.1.0, omega (arith, f.1.1), f.1.2)),
      λ h. elim (cases_lt h.1.0 n) [
        | inl l ↦ (so_far.just_these order).1 (h.0, (h.1.0, l, h.1.2))
        | inr g ↦
            let same : h.1.0 ≡ n = omega (arith, g, h.1.1) in
            let is_last : order ≡ at n = sym h.1.2 ∙ ap at same in
            absurd (not (subst (λ o. PicksCells list o) is_last h.0))
      ],
    );
  })

  -- all of them
  pub all_listed : (n : ℕ) (orders : List Order) → n ≡ list.letters ^ (list.letters - 1) → AreListedBelow list n orders → AreAllOf (PicksCells list) (orders_of orders)
  all_listed n orders whole listed = record {
    rising = listed.rising;
    just_these = λ order. (
      λ h. ((listed.just_these order).0 h).0,
      λ h. let m = is_listed list.letters some order h.strict in (listed.just_these order).1 (h, (m.0, omega (arith, m.1, whole), m.2)),
    );
  }

  -- what holds at every list holds of every order that picks cells
  pub at_every : (P : List ℕ → Type 0) (n : ℕ) → n ≡ list.letters ^ (list.letters - 1) → ((m : ℕ) → m < n → PicksCells list (at m) → P (at m))
      → (order : List ℕ) → PicksCells list order → P order
  at_every P n whole all order picks =
      let m = is_listed list.letters some order picks.strict in
      subst P m.2 (all m.0 (omega (arith, m.1, whole)) (subst (λ o. PicksCells list o) (sym m.2) picks))

-- ---- tests of a cell

pub on_both : (g i l x : ℕ) → g ≡ i → l ≡ x → ((g == i) && (l == x)) ≡ true
on_both g i l x group letter = λ z. eq-eqb g i group z && eq-eqb l x letter z

pub off_first : (g i : ℕ) (b : Bool) → g ≢ i → ((g == i) && b) ≡ false
off_first g i b apart = ap (λ a. a && b) (ne_eqb g i apart)

pub off_second : (a : Bool) (l x : ℕ) → l ≢ x → (a && (l == x)) ≡ false
off_second a l x apart = ap (λ b. a && b) (ne_eqb l x apart) ∙ none a
  where
    none : (b : Bool) → (b && false) ≡ false
    none true = refl
    none false = refl

-- ---- a list that is written

set_last : (front rest : List ℕ) (v : ℕ) → length rest ≡ 1 → set (front ++ rest) (length front) v ≡ front ++ v ∷ []
set_last [] [] v long = absurd (omega (arith, long))
set_last [] (x ∷ []) v long = refl
set_last [] (x ∷ y ∷ rest) v long = absurd (omega (arith, long))
set_last (x ∷ front) rest v long = ap (λ xs. x ∷ xs) (set_last front rest v long)

take_front : (front rest : List ℕ) → take (length front) (front ++ rest) ≡ front
take_front [] rest = refl
take_front (x ∷ front) rest = ap (λ xs. x ∷ xs) (take_front front rest)

length-drop_last : (xs : List ℕ) (m : ℕ) → length xs ≡ m + 1 → length (drop m xs) ≡ 1
length-drop_last [] m long = absurd (omega (arith, long))
length-drop_last (x ∷ xs) zero long = omega (arith, long)
length-drop_last (x ∷ xs) (suc m) long = length-drop_last xs m (omega (arith, long))

-- the front of a list without its last: how long it is, and that it is the front of what is written there
pub first_take : (old : List ℕ) (last : ℕ) → last < length old
    → (length (take last old) ≡ last) × ((front : List ℕ) → length front ≡ last → take last (front ++ drop last old) ≡ front)
    × ((base n : ℕ) → length (digits base (length (take last old)) n) ≡ last)
first_take old last inside = (
  size,
  λ front long. subst (λ k. take k (front ++ drop last old) ≡ front) long (take_front front (drop last old)),
  λ base n. length-digits base (length (take last old)) n ∙ size,
)
  where
    by : (xs : List ℕ) (m : ℕ) → m < length xs → length (take m xs) ≡ m
    by [] m l = absurd (omega (arith, l))
    by (x ∷ xs) zero l = refl
    by (x ∷ xs) (suc m) l = ap suc (by xs m (omega (arith, l)))

    size : length (take last old) ≡ last
    size = by old last inside

pub list_written : (letters n last : ℕ) (old front : List ℕ) (v : ℕ) → 1 ≤ letters → length old ≡ letters → last ≡ letters - 1
    → front ≡ digits letters last n → v ≡ first_missing letters front → set (front ++ drop last old) last v ≡ listed_order letters n
list_written letters n last old front v some long is written missing =
    let size : length front ≡ last = ap length written ∙ length-digits letters last n in
    let rest = length-drop_last old last (omega (arith, long, is, some)) in
    subst (λ k. set (front ++ drop last old) k v ≡ front ++ v ∷ []) size (set_last front (drop last old) v rest)
    ∙ (λ z. (written ∙ ap (λ k. digits letters k n) is) z ++ (missing ∙ ap (first_missing letters) (written ∙ ap (λ k. digits letters k n) is)) z ∷ [])

-- ---- what picked cells weigh

pub one_more_picked : (list : MenuList) (order weights : List ℕ) (i weight cell added : ℕ)
    → (weight ≡ sum_below i (λ j. slice_index weights (slice_index (cells_picked list order) j))) × (weight ≤ i * 2 ^ 64) → i < length list.menus
    → cell ≡ cell_of list i (picked (menu_at list i) order) → added ≡ slice_index weights cell → added < 2 ^ 64
    → (weight + added ≡ sum_below (i + 1) (λ j. slice_index weights (slice_index (cells_picked list order) j))) × (weight + added ≤ (i + 1) * 2 ^ 64)
one_more_picked list order weights i weight cell added so_far inside is adds small = (
  (let there : slice_index (cells_picked list order) i ≡ cell_of list i (picked (menu_at list i) order) = get-listed (λ i. cell_of list i (picked (menu_at list i) order)) (length list.menus) i 0 inside in
      let here : added ≡ slice_index weights (slice_index (cells_picked list order) i) = adds ∙ ap (slice_index weights) (is ∙ sym there) in
      rw (so_far.0, here, add-one) refl),
  omega (arith, so_far.1, small),
)

pub all_picked : (list : MenuList) (order weights : List ℕ) (i weight : ℕ) → weight ≡ sum_below i (λ j. slice_index weights (slice_index (cells_picked list order) j))
    → i ≡ length list.menus → weight ≡ cells_weight weights (cells_picked list order)
all_picked list order weights i weight so_far end =
    so_far ∙ ap (λ n. sum_below n (λ j. slice_index weights (slice_index (cells_picked list order) j)))
    (end ∙ sym (length-listed (λ i. cell_of list i (picked (menu_at list i) order)) (length list.menus)))
