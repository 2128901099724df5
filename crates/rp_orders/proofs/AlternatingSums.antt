-- Sums over the menus between two menus, each counted by whether it has an even number of letters more than the first:
-- they cancel, but where the two are the same.
use Rattle.std.proofs.Common.{◌≡◌, ◌≢◌, ◌<◌, ◌≤◌, ◌⊎◌, ◌+◌, ◌-◌, ◌*◌, ◌%◌, ◌^◌, ◌==◌, inl, inr, ℕ, zero, suc, Bool, true, false, List, [], ◌∷◌, length, slice_index, ℤ, pos, neg_ℤ, ◌+ℤ◌, ◌≤ℤ◌, min, bit_and, Contains, refl, sym, ap, subst, ◌∙◌, arith, if◌then◌else◌}
use Rattle.std.specs.Int.{bit_at}
use Rattle.std.proofs.lemmas.Bool.{cases_eq, eq-eqb, eqb-true, ne_eqb}
use Rattle.std.proofs.lemmas.Int.{ints}
use Rattle.std.proofs.lemmas.Nat.Bits.{bit_at-lt, bit_at_above, bit_at_and, bit_at_cat_high, bit_at_cat_low, same_from_bits_below}
use Rattle.std.proofs.lemmas.Nat.{and_le_r}
use Rattle.std.proofs.Math.Nat.{pow-suc}
use Rattle.rp_farkas.specs.Total.{total}
use Rattle.rp_farkas.proofs.Totals.{total-same, total-zero, total-add}
use Rattle.rp_evidence.specs.declared.random.Share.{Share}
use Rattle.rp_menu.specs.MenuLists.{has_letter}
use Rattle.rp_menu.proofs.MenuLetters.{letter_within}
use Rattle.rp_orders.specs.MenuSums.{holds, signed, size_of}
use Rattle.rp_orders.specs.OrderMixtures.{weight_picking}
use Rattle.rp_orders.specs.Orders.{picked}
use Rattle.rp_orders.proofs.OrderWeights.{picking_cons}

-- ---- sums

total_negated : (n : ℕ) (f : ℕ → ℤ) → total n (λ k. neg_ℤ (f k)) ≡ neg_ℤ (total n f)
unfolding total
total_negated zero f = refl
total_negated (suc n) f = omega (arith, ints, total_negated n f)

total_joined : (m n : ℕ) (f : ℕ → ℤ) → total (m + n) f ≡ total m f +ℤ total n (λ i. f (m + i))
unfolding total
total_joined m zero f =
    let none : m + 0 ≡ m = omega arith in
    let same = ap (λ k. total k f) none in
    omega (arith, ints, same)
total_joined m (suc n) f =
    let next : m + suc n ≡ suc (m + n) = omega arith in
    let same = ap (λ k. total k f) next in
    omega (arith, ints, same, total_joined m n f)

-- ---- letter by letter

-- what a letter makes of a term, by whether the first menu has it, whether the menus may have it, and whether this has
abbrev turned : Bool → Bool → Bool → ℤ → ℤ
turned true true true z = z
turned true true false z = pos 0
turned true false true z = pos 0
turned true false false z = pos 0
turned false true true z = neg_ℤ z
turned false true false z = z
turned false false true z = pos 0
turned false false false z = z

turned_none : (a c b : Bool) → turned a c b (pos 0) ≡ pos 0
turned_none true true true = refl
turned_none true true false = refl
turned_none true false true = refl
turned_none true false false = refl
turned_none false true true = refl
turned_none false true false = refl
turned_none false false true = refl
turned_none false false false = refl

module _ (a c : ℕ → Bool) (w : ℕ) where
  abbrev term : ℕ → ℕ → ℤ
  term zero b = pos w
  term (suc n) b = turned (a n) (c n) (has_letter b n) (term n b)

  -- a letter that is there, or may not be
  lower : (n b : ℕ) → b < 2 ^ n → has_letter b n ≡ false
  lower n b small = ap (λ k. k == 1) (bit_at_above b n n small (omega arith))

  upper : (n b : ℕ) → b < 2 ^ n → has_letter (1 * 2 ^ n + b) n ≡ true
  upper n b small =
      let none : n - n ≡ 0 = omega arith in
      ap (λ k. k == 1) (bit_at_cat_high 1 n b n small (omega arith) ∙ ap (bit_at 1) none)

  under : (n m b : ℕ) → m ≤ n → term m (1 * 2 ^ n + b) ≡ term m b
  under n zero b within = refl
  under n (suc m) b within =
      (λ z. turned (a m) (c m) (ap (λ k. k == 1) (bit_at_cat_low 1 n b m (omega (arith, within))) z) (under n m b (omega (arith, within)) z))

  half : (n : ℕ) → total (2 ^ suc n) (term (suc n)) ≡ total (2 ^ n) (λ b. turned (a n) (c n) false (term n b)) +ℤ total (2 ^ n) (λ b. turned (a n) (c n) true (term n b))
  half n =
      let double : 2 ^ suc n ≡ 2 ^ n + 2 ^ n = (let e : 2 ^ n * 2 ≡ 2 ^ n + 2 ^ n = omega arith in pow-suc 2 n ∙ e) in
      let one : (b : ℕ) → 2 ^ n + b ≡ 1 * 2 ^ n + b = λ b. omega arith in
      ap (λ k. total k (term (suc n))) double
      ∙ total_joined (2 ^ n) (2 ^ n) (term (suc n))
      ∙ (λ z. total-same (2 ^ n) (term (suc n)) (λ b. turned (a n) (c n) false (term n b)) (λ b l. ap (λ h. turned (a n) (c n) h (term n b)) (lower n b l)) z
      +ℤ total-same (2 ^ n) (λ b. term (suc n) (2 ^ n + b)) (λ b. turned (a n) (c n) true (term n b))
      (λ b l. ap (term (suc n)) (one b) ∙ (λ y. turned (a n) (c n) (upper n b l y) (under n n b (omega arith) y))) z)

  -- they are at least 0
  between : (n : ℕ) → pos 0 ≤ℤ total (2 ^ n) (term n)
  unfolding total
  between zero =
      let one : total (2 ^ 0) (term 0) ≡ pos 0 +ℤ pos w = refl in
      omega (arith, ints, one)
  between (suc n) = by (a n) (c n) refl refl (between n)
    where
      none : total (2 ^ n) (λ b. pos 0) ≡ pos 0
      none = total-zero (2 ^ n)

      by : (p q : Bool) → a n ≡ p → c n ≡ q → pos 0 ≤ℤ total (2 ^ n) (term n) → pos 0 ≤ℤ total (2 ^ suc n) (term (suc n))
      by p q is_a is_c rest =
          let halves : ℤ = total (2 ^ n) (λ b. turned p q false (term n b)) +ℤ total (2 ^ n) (λ b. turned p q true (term n b)) in
          let known : total (2 ^ n) (λ b. turned (a n) (c n) false (term n b)) +ℤ total (2 ^ n) (λ b. turned (a n) (c n) true (term n b)) ≡ halves =
          (λ z. total (2 ^ n) (λ b. turned (is_a z) (is_c z) false (term n b)) +ℤ total (2 ^ n) (λ b. turned (is_a z) (is_c z) true (term n b))) in
          let whole : total (2 ^ suc n) (term (suc n)) ≡ halves = half n ∙ known in
          let some : pos 0 ≤ℤ halves = so p q in
          omega (arith, ints, whole, some)
        where
          so : (p q : Bool) → pos 0 ≤ℤ (total (2 ^ n) (λ b. turned p q false (term n b)) +ℤ total (2 ^ n) (λ b. turned p q true (term n b)))
          so true true = omega (arith, ints, none, rest)
          so true false = omega (arith, ints, none)
          so false true = omega (arith, ints, total_negated (2 ^ n) (term n))
          so false false = omega (arith, ints, none, rest)

  -- where a letter of the first menu is not there, or one is there that may not be, the term is none
  off : (n b y : ℕ) → y < n → (a y ≡ true × (has_letter b y ≡ false)) ⊎ (c y ≡ false × (has_letter b y ≡ true)) → term n b ≡ pos 0
  off zero b y l why = absurd (omega (arith, l))
  off (suc n) b y l why = elim (cases_eq y n) [
    | inl e ↦ last (subst (λ k. (a k ≡ true × (has_letter b k ≡ false)) ⊎ (c k ≡ false × (has_letter b k ≡ true))) e why)
    | inr d ↦ ap (λ z. turned (a n) (c n) (has_letter b n) z) (off n b y (omega (arith, l, d)) why) ∙ turned_none (a n) (c n) (has_letter b n)
  ]
    where
      lacks : (q : Bool) (z : ℤ) → turned true q false z ≡ pos 0
      lacks true z = refl
      lacks false z = refl

      passes : (p : Bool) (z : ℤ) → turned p false true z ≡ pos 0
      passes true z = refl
      passes false z = refl

      last : (a n ≡ true × (has_letter b n ≡ false)) ⊎ (c n ≡ false × (has_letter b n ≡ true)) → turned (a n) (c n) (has_letter b n) (term n b) ≡ pos 0
      last (inl h) = (λ z. turned (h.0 z) (c n) (h.1 z) (term n b)) ∙ lacks (c n) (term n b)
      last (inr h) = (λ z. turned (a n) (h.0 z) (h.1 z) (term n b)) ∙ passes (a n) (term n b)

-- a number is even where the next is not
flipped : (k w : ℕ) → signed ((k + 1) % 2 == 0) w ≡ neg_ℤ (signed (k % 2 == 0) w)
flipped k w = elim (cases_eq (k % 2) 0) [
  | inl even ↦
      let odd : (k + 1) % 2 ≢ 0 = λ h. omega (arith, even, h) in
      ap (λ e. signed e w) (ne_eqb ((k + 1) % 2) 0 odd) ∙ sym (ap (λ e. neg_ℤ (signed e w)) (eq-eqb (k % 2) 0 even))
  | inr odd ↦
      let even : (k + 1) % 2 ≡ 0 = omega (arith, odd) in
      ap (λ e. signed e w) (eq-eqb ((k + 1) % 2) 0 even) ∙ twice w ∙ sym (ap (λ e. neg_ℤ (signed e w)) (ne_eqb (k % 2) 0 odd))
]
  where
    twice : (w : ℕ) → pos w ≡ neg_ℤ (neg_ℤ (pos w))
    twice w = omega (arith, ints)

abbrev one_if : Bool → ℕ
one_if there = if there then 1 else 0

-- a menu between the two has its number of letters more, and its term is counted by that
module _ (first : ℕ) (c : ℕ → Bool) (w b : ℕ) where
  abbrev its : ℕ → ℤ
  its n = term (λ y. has_letter first y) c w n b

  record Counts (n : ℕ) : Type 0 where
    more : ℕ
    sizes : size_of n b ≡ size_of n first + more
    counted : its n ≡ signed (more % 2 == 0) w

  counts : (n : ℕ) → ((y : ℕ) → y < n → has_letter first y ≡ true → has_letter b y ≡ true) → ((y : ℕ) → y < n → has_letter b y ≡ true → c y ≡ true) → Counts n
  counts zero has_all within = record { more = 0; sizes = refl; counted = refl }
  counts (suc n) has_all within = by (has_letter first n) (has_letter b n) (c n) refl refl refl (counts n (λ y l. has_all y (omega (arith, l))) (λ y l. within y (omega (arith, l))))
    where
      by : (p h q : Bool) → has_letter first n ≡ p → has_letter b n ≡ h → c n ≡ q → Counts n → Counts (suc n)
      by true true q is_first is_b is_c so_far = record {
        more = so_far.more;
        sizes =
            let x : one_if (has_letter first n) ≡ 1 = ap one_if is_first in
            let y : one_if (has_letter b n) ≡ 1 = ap one_if is_b in
            omega (arith, so_far.sizes, x, y);
        counted = (λ z. turned (is_first z) (within n (omega arith) is_b z) (is_b z) (its n)) ∙ so_far.counted;
      }
      by true false q is_first is_b is_c so_far = absurd (let h = has_all n (omega arith) is_first in cc)
      by false true q is_first is_b is_c so_far = record {
        more = so_far.more + 1;
        sizes =
            let x : one_if (has_letter first n) ≡ 0 = ap one_if is_first in
            let y : one_if (has_letter b n) ≡ 1 = ap one_if is_b in
            omega (arith, so_far.sizes, x, y);
        counted = (λ z. turned (is_first z) (within n (omega arith) is_b z) (is_b z) (its n)) ∙ ap neg_ℤ so_far.counted ∙ sym (flipped so_far.more w);
      }
      by false false q is_first is_b is_c so_far = record {
        more = so_far.more;
        sizes =
            let x : one_if (has_letter first n) ≡ 0 = ap one_if is_first in
            let y : one_if (has_letter b n) ≡ 0 = ap one_if is_b in
            omega (arith, so_far.sizes, x, y);
        counted = (λ z. turned (is_first z) (is_c z) (is_b z) (its n)) ∙ kept q (its n) ∙ so_far.counted;
      }
        where
          kept : (q : Bool) (z : ℤ) → turned false q false z ≡ z
          kept true z = refl
          kept false z = refl

-- ---- what an order picks

-- letter y does not stand before letter x
abbrev not_before : ℕ → List ℕ → ℕ → Bool
not_before x [] y = true
not_before x (z ∷ order) y = if z == x then true else (if z == y then false else not_before x order y)

-- where x is picked, no letter of the menu stands before it
none_before : (menu x : ℕ) (order : List ℕ) → picked menu order ≡ x → (y : ℕ) → has_letter menu y ≡ true → not_before x order y ≡ true
none_before menu x [] is y has = refl
none_before menu x (z ∷ order) is y has = by (has_letter menu z) refl (none_before menu x order)
  where
    first : (p q : Bool) (r : Bool) → p ≡ true → (if p then true else (if q then false else r)) ≡ true
    first true q r e = refl
    first false q r e = absurd cc

    rest : (p q : Bool) (r : Bool) → q ≡ false → r ≡ true → (if p then true else (if q then false else r)) ≡ true
    rest true q r e f = refl
    rest false true r e f = absurd cc
    rest false false r e f = f

    by : (h : Bool) → has_letter menu z ≡ h → (picked menu order ≡ x → (y : ℕ) → has_letter menu y ≡ true → not_before x order y ≡ true) → not_before x (z ∷ order) y ≡ true
    by true here later =
        let same : z ≡ x = sym (ap (λ k. if k then z else picked menu order) here) ∙ is in
        first (z == x) (z == y) (not_before x order y) (eq-eqb z x same)
    by false here later =
        let on : picked menu order ≡ x = sym (ap (λ k. if k then z else picked menu order) here) ∙ is in
        let other : z ≢ y = λ e. (let h : has_letter menu z ≡ true = ap (has_letter menu) e ∙ has in cc) in
        rest (z == x) (z == y) (not_before x order y) (ne_eqb z y other) (later on y has)

-- where no letter of the menu stands before x, that is picked
picks_it : (menu x : ℕ) (order : List ℕ) → has_letter menu x ≡ true → (j : ℕ) → j < length order → slice_index order j ≡ x
    → ((y : ℕ) → has_letter menu y ≡ true → not_before x order y ≡ true) → picked menu order ≡ x
picks_it menu x [] has j l at none = absurd (omega (arith, l))
picks_it menu x (z ∷ order) has j l at none = by (has_letter menu z) refl (picks_it menu x order has) j l at
  where
    first : (p q : Bool) (r : Bool) → q ≡ true → (if p then true else (if q then false else r)) ≡ true → p ≡ true
    first true q r e f = refl
    first false true r e f = absurd cc
    first false false r e f = absurd cc

    rest : (p q : Bool) (r : Bool) → p ≡ false → (if p then true else (if q then false else r)) ≡ true → r ≡ true
    rest true q r e f = absurd cc
    rest false true r e f = absurd cc
    rest false false r e f = f

    by : (h : Bool) → has_letter menu z ≡ h → ((i : ℕ) → i < length order → slice_index order i ≡ x → ((y : ℕ) → has_letter menu y ≡ true → not_before x order y ≡ true) → picked menu order ≡ x)
        → (i : ℕ) → i < length (z ∷ order) → slice_index (z ∷ order) i ≡ x → picked menu (z ∷ order) ≡ x
    by true here later i within is =
        let same : z ≡ x = eqb-true z x (first (z == x) (z == z) (not_before x order z) (eq-eqb z z refl) (none z here)) in
        ap (λ k. if k then z else picked menu order) here ∙ same
    by false here later zero within is = absurd (let h : has_letter menu z ≡ true = ap (has_letter menu) is ∙ has in cc)
    by false here later (suc i) within is =
        let other : z ≢ x = λ e. (let h : has_letter menu z ≡ true = ap (has_letter menu) e ∙ has in cc) in
        ap (λ k. if k then z else picked menu order) here
        ∙ later i (omega (arith, within)) is (λ y there. rest (z == x) (z == y) (not_before x order y) (ne_eqb z x other) (none y there))

-- ---- the sum of one order

all_or_some : (n : ℕ) (test : ℕ → Bool) → ((y : ℕ) → y < n → test y ≡ true) ⊎ ((y : ℕ) × (y < n) × (test y ≡ false))
all_or_some zero test = inl (λ y l. absurd (omega (arith, l)))
all_or_some (suc n) test = by (all_or_some n test) (test n) refl
  where
    by : ((y : ℕ) → y < n → test y ≡ true) ⊎ ((y : ℕ) × (y < n) × (test y ≡ false)) → (b : Bool) → test n ≡ b
        → ((y : ℕ) → y < suc n → test y ≡ true) ⊎ ((y : ℕ) × (y < suc n) × (test y ≡ false))
    by (inr some) b e = inr (some.0, omega (arith, some.1), some.2)
    by (inl all) true e = inl (λ y l. elim (cases_eq y n) [
      | inl same ↦ ap test same ∙ e
      | inr other ↦ all y (omega (arith, l, other))
    ])
    by (inl all) false e = inr (n, omega arith, e)

abbrev implied : Bool → Bool → Bool
implied p q = if p then q else true

implied_on : (p q : Bool) → implied p q ≡ true → p ≡ true → q ≡ true
implied_on true q h e = h
implied_on false q h e = absurd cc

not_implied : (p q : Bool) → implied p q ≡ false → (p ≡ true) × (q ≡ false)
not_implied true q h = (refl, h)
not_implied false q h = absurd cc

-- a menu holds another where it has each of its letters
pub holds_all : (b a : ℕ) → bit_and b a ≡ a → (y : ℕ) → has_letter a y ≡ true → has_letter b y ≡ true
holds_all b a is y has =
    let one : bit_at a y ≡ 1 = eqb-true (bit_at a y) 1 has in
    let same : bit_at a y ≡ min (bit_at b y) (bit_at a y) = sym (ap (λ k. bit_at k y) is) ∙ bit_at_and b a y in
    eq-eqb (bit_at b y) 1 (omega (arith, one, same, bit_at-lt b y))

all_hold : (n b a : ℕ) → a < 2 ^ n → ((y : ℕ) → y < n → has_letter a y ≡ true → has_letter b y ≡ true) → bit_and b a ≡ a
all_hold n b a small all = same_from_bits_below n (bit_and b a) a (omega (arith, and_le_r b a, small)) small (λ y l. bit_at_and b a y ∙ at y l)
  where
    at : (y : ℕ) → y < n → min (bit_at b y) (bit_at a y) ≡ bit_at a y
    at y l = elim (cases_eq (bit_at a y) 1) [
      | inl one ↦ (let has : bit_at b y ≡ 1 = eqb-true (bit_at b y) 1 (all y l (eq-eqb (bit_at a y) 1 one)) in omega (arith, one, has))
      | inr other ↦ omega (arith, other, bit_at-lt a y)
    ]

none_signed : (even : Bool) → signed even 0 ≡ pos 0
none_signed true = refl
none_signed false = refl

module _ (n a x : ℕ) (small : a < 2 ^ n) (there : has_letter a x ≡ true) where
  -- what a menu adds, where so much of it is chosen by x
  abbrev pub added : (ℕ → ℕ) → ℕ → ℤ
  added chosen b = if holds b a then signed ((size_of n b - size_of n a) % 2 == 0) (chosen b) else pos 0

  abbrev of_order : List ℕ → ℕ → ℕ → ℕ
  of_order order w b = if picked b order == x then w else 0

  module _ (order : List ℕ) (w j : ℕ) (inside : j < length order) (at : slice_index order j ≡ x) where
    abbrev its_term : ℕ → ℤ
    its_term = term (has_letter a) (not_before x order) w n

    same : (b : ℕ) → b < 2 ^ n → added (of_order order w) b ≡ its_term b
    same b b_small = by (holds b a) (picked b order == x) refl refl
      where
        by : (h p : Bool) → holds b a ≡ h → (picked b order == x) ≡ p → added (of_order order w) b ≡ its_term b
        by true true is_h is_p =
            let up = holds_all b a (eqb-true (bit_and b a) a is_h) in
            let pick = eqb-true (picked b order) x is_p in
            let c = counts a (not_before x order) w b n (λ y l. up y) (λ y l has. none_before b x order pick y has) in
            let size : size_of n b - size_of n a ≡ c.more = omega (arith, c.sizes) in
            (λ z. if is_h z then signed (size z % 2 == 0) (if is_p z then w else 0) else pos 0) ∙ sym c.counted
        by true false is_h is_p =
            let up = holds_all b a (eqb-true (bit_and b a) a is_h) in
            elim (all_or_some n (λ y. implied (has_letter b y) (not_before x order y))) [
              | inl all ↦
                  let pick : picked b order ≡ x = picks_it b x order (up x there) j inside at
                  (λ y has. implied_on (has_letter b y) (not_before x order y) (all y (letter_within b n y b_small has)) has) in
                  let yes : (picked b order == x) ≡ true = eq-eqb (picked b order) x pick in
                  absurd cc
              | inr some ↦
                  let why = not_implied (has_letter b some.0) (not_before x order some.0) some.2 in
                  (λ z. if is_h z then signed ((size_of n b - size_of n a) % 2 == 0) (if is_p z then w else 0) else pos 0)
                  ∙ none_signed ((size_of n b - size_of n a) % 2 == 0)
                  ∙ sym (off (has_letter a) (not_before x order) w n b some.0 some.1 (inr (why.1, why.0)))
            ]
        by false p is_h is_p =
            elim (all_or_some n (λ y. implied (has_letter a y) (has_letter b y))) [
              | inl all ↦
                  let yes : holds b a ≡ true = eq-eqb (bit_and b a) a (all_hold n b a small (λ y l. implied_on (has_letter a y) (has_letter b y) (all y l))) in
                  absurd cc
              | inr some ↦
                  let why = not_implied (has_letter a some.0) (has_letter b some.0) some.2 in
                  ap (λ h. if h then signed ((size_of n b - size_of n a) % 2 == 0) (of_order order w b) else pos 0) is_h
                  ∙ sym (off (has_letter a) (not_before x order) w n b some.0 some.1 (inl why))
            ]

    order_sum : pos 0 ≤ℤ total (2 ^ n) (added (of_order order w))
    order_sum =
        let known = between (has_letter a) (not_before x order) w n in
        let is = total-same (2 ^ n) (added (of_order order w)) its_term same in
        omega (arith, ints, known, is)

  -- ---- the sum of all parts

  abbrev of_parts : List Share → ℕ → ℕ
  of_parts parts b = weight_picking b x parts

  joined : (even : Bool) (u v : ℕ) → signed even (u + v) ≡ signed even u +ℤ signed even v
  joined true u v = omega (arith, ints)
  joined false u v = omega (arith, ints)

  none_added : (b : ℕ) → added (λ b. 0) b ≡ pos 0
  none_added b = by (holds b a)
    where
      by : (h : Bool) → (if h then signed ((size_of n b - size_of n a) % 2 == 0) 0 else pos 0) ≡ pos 0
      by true = none_signed ((size_of n b - size_of n a) % 2 == 0)
      by false = refl

  both_added : (f g : ℕ → ℕ) (b : ℕ) → added (λ b. f b + g b) b ≡ added f b +ℤ added g b
  both_added f g b = by (holds b a)
    where
      by : (h : Bool) → (if h then signed ((size_of n b - size_of n a) % 2 == 0) (f b + g b) else pos 0)
          ≡ (if h then signed ((size_of n b - size_of n a) % 2 == 0) (f b) else pos 0) +ℤ (if h then signed ((size_of n b - size_of n a) % 2 == 0) (g b) else pos 0)
      by true = joined ((size_of n b - size_of n a) % 2 == 0) (f b) (g b)
      by false = omega (arith, ints)

  pub parts_sum : (parts : List Share) → ((part : Share) → Contains parts part → (j : ℕ) × (j < length part.patches) × (slice_index part.patches j ≡ x))
      → pos 0 ≤ℤ total (2 ^ n) (added (of_parts parts))
  parts_sum [] stands =
      let none = total-same (2 ^ n) (added (of_parts [])) (λ b. pos 0) (λ b l. none_added b) ∙ total-zero (2 ^ n) in
      omega (arith, ints, none)
  parts_sum (part ∷ parts) stands =
      let first = stands part (0, omega arith, refl) in
      let here = order_sum part.patches part.weight first.0 first.1 first.2 in
      let rest = parts_sum parts (λ q h. stands q (suc h.0, omega (arith, h.1), h.2)) in
      let split : (b : ℕ) → of_parts (part ∷ parts) b ≡ of_order part.patches part.weight b + of_parts parts b = λ b. picking_cons b x part parts in
      let each = total-same (2 ^ n) (added (of_parts (part ∷ parts))) (λ b. added (of_order part.patches part.weight) b +ℤ added (of_parts parts) b)
      (λ b l. ap (λ k. if holds b a then signed ((size_of n b - size_of n a) % 2 == 0) k else pos 0) (split b) ∙ both_added (of_order part.patches part.weight) (of_parts parts) b) in
      let whole = total-add (2 ^ n) (added (of_order part.patches part.weight)) (added (of_parts parts)) in
      omega (arith, ints, here, rest, each, whole)
