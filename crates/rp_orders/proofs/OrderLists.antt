-- Strict orders among the lists that have numbers: they rise with the numbers, and every strict order is one of them. A
-- list has a number by its first letters, which are any digits, and ends with the letter that these miss. That the
-- lists rise is one induction over digits (`digits_rise`); the last letter of a strict order is the one that the others
-- miss, since one more would be more numbers than there are (`no_other`, by the pigeonhole principle).
use Rattle.std.proofs.Common.{◌≡◌, ◌≢◌, ◌<◌, ◌≤◌, ◌⊎◌, ◌+◌, ◌-◌, ◌*◌, ◌/◌, ◌%◌, ◌^◌, ◌==◌, ◌||◌, ◌++◌, inl, inr, ℕ, zero, suc, Bool, true, false, not, List, [], ◌∷◌, All, length, length-append, take, get_or, slice_index, refl, sym, ap, subst, ◌∙◌, arith, if◌then◌else◌, nat_lt}
use Rattle.std.specs.Cmp.Lexicographic.{slice_cmp}
use Rattle.std.specs.List.{list_any}
use Rattle.std.specs.Ordering.{nat_cmp}
use Rattle.std.specs.declared.cmp.Ordering.TheVariants.{Less}
use Rattle.std.proofs.Math.Nat.{div-add-mod, mod-lt, mul-le-mul_right, pow-succ', pow-zero}
use Rattle.std.proofs.lemmas.Bool.{cases_eq, cases_lt, eq-eqb, ne_eqb, ltb-false, ltb-true}
use Rattle.std.proofs.lemmas.List.{get_or-take, take_more}
use Rattle.std.proofs.lemmas.Nat.{div-mul-add, mod-mul-add}
use Rattle.rp_orders.specs.InnerLists.{digits, first_missing, listed_order}
use Rattle.rp_orders.specs.OrderKinds.{first_with}
use Rattle.rp_orders.specs.Orders.{IsStrictOrder}
use Rattle.rp_patch.specs.PartialTypes.{Before}
use Rattle.rp_patch.proofs.SearchLaws.{before_less}
use Rattle.rp_num.proofs.Repeats.{Repeats, repeats}

-- ---- the first number with a test

if_true : (b : Bool) (x y : ℕ) → b ≡ true → (if b then x else y) ≡ x
if_true true x y e = refl
if_true false x y e = absurd cc

if_false : (b : Bool) (x y : ℕ) → b ≡ false → (if b then x else y) ≡ y
if_false true x y e = absurd cc
if_false false x y e = refl

not_true : (b : Bool) → ¬ (b ≡ true) → b ≡ false
not_true true n = absurd (n refl)
not_true false n = refl

nat_lt_true : (a b : ℕ) → a < b → nat_lt a b ≡ true
nat_lt_true a b l = not_false (nat_lt a b) (λ e. let le = ltb-false a b e in omega (arith, l, le))
  where
    not_false : (c : Bool) → ¬ (c ≡ false) → c ≡ true
    not_false true n = refl
    not_false false n = absurd (n refl)

nat_lt_false : (a b : ℕ) → b ≤ a → nat_lt a b ≡ false
nat_lt_false a b le = not_true (nat_lt a b) (λ e. let l = ltb-true a b e in omega (arith, l, le))

-- none so far, and not the next
pub none_with : (n : ℕ) (test : ℕ → Bool) → first_with n test ≡ n → test n ≡ false → first_with (n + 1) test ≡ n + 1
none_with n test none not = subst (λ m. first_with m test ≡ m) (let e : suc n ≡ n + 1 = omega arith in e)
    (if_false (nat_lt (first_with n test) n) _ _ (nat_lt_false (first_with n test) n (omega (arith, none))) ∙ if_false (test n) n (suc n) not)

-- the first that passes
pub first_at : (k n : ℕ) (test : ℕ → Bool) → first_with k test ≡ k → test k ≡ true → k < n → first_with n test ≡ k
first_at k zero test none here l = absurd (omega (arith, l))
first_at k (suc n) test none here l = elim (cases_eq k n) [
  | inl e ↦
      let so_far : first_with n test ≡ n = subst (λ m. first_with m test ≡ m) e none in
      if_false (nat_lt (first_with n test) n) _ _ (nat_lt_false (first_with n test) n (omega (arith, so_far)))
      ∙ if_true (test n) n (suc n) (subst (λ m. test m ≡ true) e here) ∙ sym e
  | inr d ↦
      let before = first_at k n test none here (omega (arith, l, d)) in
      if_true (nat_lt (first_with n test) n) _ _ (nat_lt_true (first_with n test) n (omega (arith, before, l, d))) ∙ before
]

-- what is first passes, and none before it does
pub first_passes : (n : ℕ) (test : ℕ → Bool) → first_with n test < n → test (first_with n test) ≡ true
first_passes zero test l = absurd (omega (arith, l))
first_passes (suc n) test l = elim (cases_lt (first_with n test) n) [
  | inl m ↦
      let is = if_true (nat_lt (first_with n test) n) (first_with n test) (if test n then n else suc n) (nat_lt_true (first_with n test) n m) in
      subst (λ k. test k ≡ true) (sym is) (first_passes n test m)
  | inr g ↦ later (if_false (nat_lt (first_with n test) n) (first_with n test) (if test n then n else suc n) (nat_lt_false (first_with n test) n g))
]
  where
    by : (b : Bool) → test n ≡ b → (if b then n else suc n) < suc n → test (if b then n else suc n) ≡ true
    by true is m = is
    by false is m = absurd (omega (arith, m))

    later : first_with (suc n) test ≡ (if test n then n else suc n) → test (first_with (suc n) test) ≡ true
    later is = subst (λ k. test k ≡ true) (sym is) (by (test n) refl (subst (λ k. k < suc n) is l))

pub some_with : (n k : ℕ) (test : ℕ → Bool) → k < n → test k ≡ true → first_with n test ≤ k
some_with zero k test l here = absurd (omega (arith, l))
some_with (suc n) k test l here = elim (cases_lt (first_with n test) n) [
  | inl m ↦
      let is = if_true (nat_lt (first_with n test) n) (first_with n test) (if test n then n else suc n) (nat_lt_true (first_with n test) n m) in
      elim (cases_eq k n) [
        | inl e ↦ omega (arith, is, m, e)
        | inr d ↦ omega (arith, is, some_with n k test (omega (arith, l, d)) here)
      ]
  | inr g ↦ elim (cases_eq k n) [
    | inl e ↦
        let is = if_false (nat_lt (first_with n test) n) (first_with n test) (if test n then n else suc n) (nat_lt_false (first_with n test) n g) in
        let on = if_true (test n) n (suc n) (subst (λ m. test m ≡ true) e here) in
        omega (arith, is, on, e)
    | inr d ↦ absurd (omega (arith, g, some_with n k test (omega (arith, l, d)) here, l, d))
  ]
]

-- ---- digits

pub length-digits : (base places n : ℕ) → length (digits base places n) ≡ places
length-digits base zero n = refl
length-digits base (suc places) n = omega (arith, length-append (digits base places (n / base)) (n % base ∷ []), length-digits base places (n / base))

before_longer : (xs ys us vs : List ℕ) → Before xs ys → Before (xs ++ us) (ys ++ vs)
before_longer xs [] us vs h = absurd h
before_longer [] (y ∷ ys) us vs h = absurd h
before_longer (x ∷ xs) (y ∷ ys) us vs (inl l) = inl l
before_longer (x ∷ xs) (y ∷ ys) us vs (inr h) = inr (h.0, before_longer xs ys us vs h.1)

before_at : (xs us vs : List ℕ) (a b : ℕ) → a < b → Before (xs ++ a ∷ us) (xs ++ b ∷ vs)
before_at [] us vs a b l = inl l
before_at (x ∷ xs) us vs a b l = inr (refl, before_at xs us vs a b l)

module _ (base : ℕ) (some : 0 < base) where
  whole : (n : ℕ) → n ≡ n / base * base + n % base
  whole n = let h = div-add-mod n base in omega (arith, h)

  rest_small : (n : ℕ) → n % base < base
  rest_small n = mod-lt n some

  quotient_small : (places n : ℕ) → n < base ^ suc places → n / base < base ^ places
  quotient_small places n l = elim (cases_lt (n / base) (base ^ places)) [
    | inl m ↦ m
    | inr g ↦
        let more = mul-le-mul_right {m = base ^ places} {n = n / base} base g in
        absurd (omega (arith, l, more, whole n, pow-succ' base places))
  ]

  pub digits_rise : (places n m : ℕ) → n < m → m < base ^ places → Before (digits base places n) (digits base places m)
  digits_rise zero n m less within = absurd (omega (arith, less, within, pow-zero base))
  digits_rise (suc places) n m less within = elim (cases_eq (n / base) (m / base)) [
    | inl e ↦
        let times = ap (λ q. q * base) e in
        let last : n % base < m % base = omega (arith, less, whole n, whole m, times) in
        subst (λ q. Before (digits base places q ++ n % base ∷ []) (digits base places (m / base) ++ m % base ∷ [])) (sym e)
        (before_at (digits base places (m / base)) [] [] (n % base) (m % base) last)
    | inr d ↦ before_longer (digits base places (n / base)) (digits base places (m / base)) (n % base ∷ []) (m % base ∷ [])
        (digits_rise places (n / base) (m / base) (lower d) (quotient_small places m within))
  ]
    where
      lower : n / base ≢ m / base → n / base < m / base
      lower d = elim (cases_lt (n / base) (m / base)) [
        | inl l ↦ l
        | inr g ↦
            let more = mul-le-mul_right {m = m / base + 1} {n = n / base} base (omega (arith, g, d)) in
            absurd (omega (arith, more, less, whole n, whole m, rest_small m))
      ]

  -- digits that are below the base are those of a number
  pub are_digits : (places : ℕ) (xs : List ℕ) → length xs ≡ places → ((j : ℕ) → j < places → slice_index xs j < base)
      → (n : ℕ) × (n < base ^ places) × (digits base places n ≡ xs)
  are_digits zero [] long small = (0, omega (arith, pow-zero base), refl)
  are_digits zero (x ∷ xs) long small = absurd (omega (arith, long))
  are_digits (suc places) xs long small =
      let front = take places xs in
      let last = slice_index xs places in
      let split : xs ≡ front ++ last ∷ [] = sym (whole_list xs (suc places) long) ∙ (let e : suc places ≡ places + 1 = omega arith in ap (λ m. take m xs) e) ∙ take_more xs places 0 (omega (arith, long)) in
      let size : length front ≡ places = front_length xs places long in
      let h = are_digits places front size (λ j l. subst (λ d. d < base) (sym (get_or-take places xs j 0 l)) (small j (omega (arith, l)))) in
      let l : last < base = small places (omega arith) in
      let n = h.0 * base + last in
      let within : n < base ^ suc places =
      let more = mul-le-mul_right {m = h.0 + 1} {n = base ^ places} base (omega (arith, h.1)) in
      omega (arith, more, l, pow-succ' base places) in (
        n,
        within,
        (λ i. digits base places (div-mul-add h.0 base last l i) ++ mod-mul-add h.0 base last l i ∷ []) ∙ ap (λ f. f ++ last ∷ []) h.2 ∙ sym split,
      )
    where
      whole_list : (ys : List ℕ) (m : ℕ) → length ys ≡ m → take m ys ≡ ys
      whole_list [] zero e = refl
      whole_list [] (suc m) e = refl
      whole_list (y ∷ ys) zero e = absurd (omega (arith, e))
      whole_list (y ∷ ys) (suc m) e = ap (λ zs. y ∷ zs) (whole_list ys m (omega (arith, e)))

      front_length : (ys : List ℕ) (m : ℕ) → length ys ≡ suc m → length (take m ys) ≡ m
      front_length [] m e = absurd (omega (arith, e))
      front_length (y ∷ ys) zero e = refl
      front_length (y ∷ ys) (suc m) e = ap suc (front_length ys m (omega (arith, e)))

-- ---- strict orders

module _ (letters : ℕ) (some : 0 < letters) where
  -- the lists rise with their numbers
  pub lists_rise : (n m : ℕ) → n < m → m < letters ^ (letters - 1) → slice_cmp nat_cmp (listed_order letters n) (listed_order letters m) ≡ Less
  lists_rise n m less within =
      before_less (listed_order letters n) (listed_order letters m)
      (before_longer (digits letters (letters - 1) n) (digits letters (letters - 1) m) _ _ (digits_rise letters some (letters - 1) n m less within))

  module _ (order : List ℕ) (strict : IsStrictOrder letters order) where
    abbrev front : List ℕ
    front = take (letters - 1) order

    abbrev last : ℕ
    last = slice_index order (letters - 1)

    abbrev test : ℕ → Bool
    test x = not (list_any (λ y. y == x) front)

    last_small : last < letters
    last_small = strict.letter (letters - 1) (omega (arith, some))

    front_at : (j : ℕ) → j < letters - 1 → slice_index front j ≡ slice_index order j
    front_at j l = get_or-take (letters - 1) order j 0 l

    front_long : length front ≡ letters - 1
    front_long = by order (letters - 1) (omega (arith, strict.of_all, some))
      where
        by : (ys : List ℕ) (m : ℕ) → m < length ys → length (take m ys) ≡ m
        by [] m l = absurd (omega (arith, l))
        by (y ∷ ys) zero l = refl
        by (y ∷ ys) (suc m) l = ap suc (by ys m (omega (arith, l)))

    order_is : order ≡ front ++ last ∷ []
    order_is =
        sym (whole order letters strict.of_all) ∙ (let e : letters ≡ (letters - 1) + 1 = omega (arith, some) in ap (λ m. take m order) e)
        ∙ take_more order (letters - 1) 0 (omega (arith, strict.of_all, some))
      where
        whole : (ys : List ℕ) (m : ℕ) → length ys ≡ m → take m ys ≡ ys
        whole [] zero e = refl
        whole [] (suc m) e = refl
        whole (y ∷ ys) zero e = absurd (omega (arith, e))
        whole (y ∷ ys) (suc m) e = ap (λ zs. y ∷ zs) (whole ys m (omega (arith, e)))

    none_in : (xs : List ℕ) (x : ℕ) → ((j : ℕ) → j < length xs → slice_index xs j ≢ x) → list_any (λ y. y == x) xs ≡ false
    none_in [] x none = refl
    none_in (y ∷ xs) x none = rw (ne_eqb y x (none 0 (omega arith))) (none_in xs x (λ j l. none (suc j) (omega (arith, l))))

    some_in : (xs : List ℕ) (j : ℕ) → j < length xs → list_any (λ y. y == slice_index xs j) xs ≡ true
    some_in [] j l = absurd (omega (arith, l))
    some_in (y ∷ xs) zero l = rw (eq-eqb y y refl) refl
    some_in (y ∷ xs) (suc j) l = by (y == slice_index xs j) (some_in xs j (omega (arith, l)))
      where
        by : (b : Bool) → list_any (λ z. z == slice_index xs j) xs ≡ true → (b || list_any (λ z. z == slice_index xs j) xs) ≡ true
        by true h = refl
        by false h = h

    last_missing : test last ≡ true
    last_missing = ap not (none_in front last (λ j l e. strict.once j (letters - 1) (omega (arith, l, front_long)) (omega (arith, some))
        (sym (front_at j (omega (arith, l, front_long))) ∙ e)))

    -- a letter that is missing among the others, other than the last, stands nowhere in the order
    nowhere : (x : ℕ) → test x ≡ true → x ≢ last → (j : ℕ) → j < letters → slice_index order j ≢ x
    nowhere x missing other j l e = elim (cases_eq j (letters - 1)) [
      | inl is ↦ other (sym (sym (ap (slice_index order) is) ∙ e))
      | inr d ↦
          let inside : j < letters - 1 = omega (arith, l, d) in
          let there = some_in front j (omega (arith, inside, front_long)) in
          clash (list_any (λ y. y == x) front) missing (subst (λ y. list_any (λ z. z == y) front ≡ true) (front_at j inside ∙ e) there)
    ]
      where
        clash : (b : Bool) → not b ≡ true → b ≡ true → ⊥
        clash true m h = cc
        clash false m h = cc

    at : (ys : List ℕ) (i e : ℕ) → i < length ys → slice_index ys i ≡ get_or ys i e
    at [] i e l = absurd (omega (arith, l))
    at (y ∷ ys) zero e l = refl
    at (y ∷ ys) (suc i) e l = at ys i e (omega (arith, l))

    -- one letter more than there are
    too_many : (x : ℕ) → x < letters → ((j : ℕ) → j < letters → slice_index order j ≢ x) → ⊥
    too_many x small none = go (repeats letters (x ∷ order) all (omega (arith, strict.of_all)))
      where
        all : All (λ y. y < letters) (x ∷ order)
        all zero e l = small
        all (suc j) e l =
            let inside : j < length order = omega (arith, l) in
            subst (λ y. y < letters) (at order j e inside) (strict.letter j (omega (arith, inside, strict.of_all)))

        first : (j : ℕ) → j < letters → x ≡ get_or (x ∷ order) (0 + suc j) 0 → ⊥
        first j l e = none j l (sym (e ∙ (let m : 0 + suc j ≡ suc j = omega arith in ap (λ k. get_or (x ∷ order) k 0) m)))

        later : (a d : ℕ) → 0 < d → a + d < letters → slice_index order a ≡ get_or (x ∷ order) (suc a + d) 0 → ⊥
        later a d some_d l e = strict.once a (a + d) (omega (arith, some_d)) l (e ∙ (let m : suc a + d ≡ suc (a + d) = omega arith in ap (λ k. get_or (x ∷ order) k 0) m))

        go : Repeats (x ∷ order) → ⊥
        go (zero, zero, some_d, l, e) = omega (arith, some_d)
        go (zero, suc j, some_d, l, e) = first j (omega (arith, l, strict.of_all)) e
        go (suc a, d, some_d, l, e) = later a d some_d (omega (arith, l, strict.of_all)) e

    -- no letter but the last is missing among the others
    no_other : (x : ℕ) → x < letters → test x ≡ true → x ≡ last
    no_other x small missing = elim (cases_eq x last) [
      | inl e ↦ e
      | inr d ↦ absurd (too_many x small (nowhere x missing d))
    ]

    last_is : first_missing letters front ≡ last
    last_is =
        let least = some_with letters last test last_small last_missing in
        let small : first_with letters test < letters = omega (arith, least, last_small) in
        no_other (first_with letters test) small (first_passes letters test small)

  -- every strict order is one of the lists
  pub is_listed : (order : List ℕ) → IsStrictOrder letters order → (n : ℕ) × (n < letters ^ (letters - 1)) × (listed_order letters n ≡ order)
  is_listed order strict =
      let h = are_digits letters some (letters - 1) (front order strict) (front_long order strict)
      (λ j l. subst (λ d. d < letters) (sym (front_at order strict j l)) (strict.letter j (omega (arith, l)))) in (
        h.0,
        h.1,
        ap (λ f. f ++ first_missing letters f ∷ []) h.2 ∙ ap (λ x. front order strict ++ x ∷ []) (last_is order strict) ∙ sym (order_is order strict),
      )

  -- every letter stands somewhere in a strict order
  pub stands_somewhere : (order : List ℕ) → IsStrictOrder letters order → (x : ℕ) → x < letters → (j : ℕ) × (j < letters) × (slice_index order j ≡ x)
  stands_somewhere order strict x small = go letters (λ j l. inl l)
    where
      go : (n : ℕ) → ((j : ℕ) → j < letters → (j < n) ⊎ (slice_index order j ≢ x)) → (j : ℕ) × (j < letters) × (slice_index order j ≡ x)
      go zero rest = absurd (too_many order strict x small (λ j l. elim (rest j l) [ inl none ↦ absurd (omega (arith, none)) | inr d ↦ d ]))
      go (suc n) rest = elim (cases_eq (slice_index order n) x) [
        | inl e ↦ elim (cases_lt n letters) [
          | inl m ↦ (n, m, e)
          | inr g ↦ go n (λ j l. inl (omega (arith, l, g)))
        ]
        | inr d ↦ go n (λ j l. elim (rest j l) [
          | inl below ↦ elim (cases_eq j n) [
            | inl is ↦ inr (subst (λ i. slice_index order i ≢ x) (sym is) d)
            | inr other ↦ inl (omega (arith, below, other))
          ]
          | inr apart ↦ inr apart
        ])
      ]
