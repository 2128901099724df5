-- How a decimal is read digit by digit: what is kept at a limit agrees with the number up to it, and the zeros at the
-- end are left out.
use Rattle.std.proofs.Common.{◌≡◌, ℕ, ◌+◌, ◌-◌, ◌*◌, ◌^◌, ◌<◌, ◌≤◌, Bool, true, false, refl, sym, ◌∙◌, ap, arith, zero, suc, List, [], ◌∷◌, ◌++◌, length, get_or, take, min, eqb, add-one, nat_lt, nat_le, Ok, Err, ◌&&◌, if◌then◌else◌}
use Rattle.std.specs.Char.{is_ascii_digit, digit_value}
use Rattle.std.specs.Str.Parse.{digits_value, digits_value_after}
use Rattle.std.specs.List.{list_all, suffix_len}
use Rattle.std.proofs.lemmas.List.Sums.{suffix_len_is}
use Rattle.std.proofs.lemmas.Bool.Decides.{nat_tests}
use Rattle.rp_num.specs.declared.decimal.NumFault.TheVariants.{Bad}
use Rattle.rp_num.specs.Decimal.{is_numeral, without_last_zeros, decimal_from}

-- a digit's value
digit_value-digit : (c : ℕ) → is_ascii_digit c ≡ true → (digit_value c ≡ c - 48) × (48 ≤ c) × (c ≤ 57)
digit_value-digit c h = (grind (arith, nat_tests), grind (arith, nat_tests), grind (arith, nat_tests))

and-left : (a b : Bool) → (a && b) ≡ true → a ≡ true
and-left true b h = refl
and-left false b h = h

and-right : (a b : Bool) → (a && b) ≡ true → b ≡ true
and-right true b h = h
and-right false b h = absurd cc

-- each byte of digits is one
pub digit_at : (ds : List ℕ) (i : ℕ) → list_all is_ascii_digit ds ≡ true → i < length ds → (digit_value (get_or ds i 0) ≡ get_or ds i 0 - 48) × (48 ≤ get_or ds i 0) × (get_or ds i 0 ≤ 57)
digit_at [] i h below = absurd (omega arith)
digit_at (d ∷ ds) zero h below = digit_value-digit d (and-left _ _ h)
digit_at (d ∷ ds) (suc i) h below = digit_at ds i (and-right _ _ h) (omega arith)

-- one digit more
pub digits_value_after-take_more : (ds : List ℕ) (n i : ℕ) → i < length ds → digits_value_after 10 n (take (suc i) ds) ≡ digits_value_after 10 n (take i ds) * 10 + digit_value (get_or ds i 0)
digits_value_after-take_more [] n i below = absurd (omega arith)
digits_value_after-take_more (d ∷ ds) n zero below = refl
digits_value_after-take_more (d ∷ ds) n (suc i) below = digits_value_after-take_more ds (n * 10 + digit_value d) i (omega arith)

-- numbers that agree below a limit still do with further digits
min-digits_value_after : (m : ℕ) (ds : List ℕ) (a b : ℕ) → 1 ≤ m → min a m ≡ min b m → min (digits_value_after 10 a ds) m ≡ min (digits_value_after 10 b ds) m
min-digits_value_after m [] a b h e = e
min-digits_value_after m (d ∷ ds) a b h e =
    min-digits_value_after m ds (a * 10 + digit_value d) (b * 10 + digit_value d) h (omega arith)

digits_value_after-append : (xs ys : List ℕ) (n : ℕ) → digits_value_after 10 n (xs ++ ys) ≡ digits_value_after 10 (digits_value_after 10 n xs) ys
digits_value_after-append [] ys n = refl
digits_value_after-append (x ∷ xs) ys n = digits_value_after-append xs ys (n * 10 + digit_value x)

-- digits read in two parts, each kept at a limit
pub min-digits_value : (m : ℕ) (xs ys : List ℕ) → 1 ≤ m → min (digits_value_after 10 (min (digits_value_after 10 0 xs) m) ys) m ≡ min (digits_value 10 (xs ++ ys)) m
min-digits_value m xs ys h =
    min-digits_value_after m ys (min (digits_value_after 10 0 xs) m) (digits_value_after 10 0 xs) h (omega arith)
    ∙ ap (λ n. min n m) (sym (digits_value_after-append xs ys 0))

-- a part of digits is digits
pub list_all-take : (p : ℕ → Bool) (xs : List ℕ) (n : ℕ) → list_all p xs ≡ true → list_all p (take n xs) ≡ true
list_all-take p [] zero h = refl
list_all-take p [] (suc n) h = refl
list_all-take p (x ∷ xs) zero h = refl
list_all-take p (x ∷ xs) (suc n) h =
    let front = and-left (p x) (list_all p xs) h in
    let rest = list_all-take p xs n (and-right (p x) (list_all p xs) h) in
    rw (front, rest) refl

-- zeros from a place on, and none just before it, are the zeros at the end
pub without_last_zeros_is : (ds : List ℕ) (n : ℕ) → n ≤ length ds → ((k : ℕ) → n ≤ k → k < length ds → get_or ds k 0 ≡ 48) → (0 < n → get_or ds (n - 1) 0 ≡ 48 → ⊥) → take n ds ≡ without_last_zeros ds
without_last_zeros_is ds n h zeros last =
    let e = suffix_len_is (λ b. eqb b 48) ds n 0 h (λ k a b. let z = zeros k a b in grind (arith, nat_tests)) (λ p. let z = last p in grind (arith, nat_tests)) in
    let place : n ≡ length ds - suffix_len (λ b. eqb b 48) ds = omega arith in
    ap (λ k. take k ds) place

-- a step of reading digits, kept at a limit
pub extended_more : (ds : List ℕ) (u i e d r : ℕ) → list_all is_ascii_digit ds ≡ true → i < length ds → e ≡ min (digits_value_after 10 u (take i ds)) (10 ^ 18) → d ≡ get_or ds i 0 - 48 → r ≡ min (e * 10 + d) (10 ^ 18) → r ≡ min (digits_value_after 10 u (take (i + 1) ds)) (10 ^ 18)
extended_more ds u i e d r h below he hd hr =
    let value = digit_at ds i h below in
    let more = digits_value_after-take_more ds u i below in
    rw add-one (omega arith)

-- the places of a numeral are digits
pub digits-places : (after places : List ℕ) → true ≡ is_numeral after → places ≡ without_last_zeros after → list_all is_ascii_digit places ≡ true
digits-places after places h e =
    let all = and-right (nat_lt 0 (length after)) (list_all is_ascii_digit after) (sym h) in
    rw e (list_all-take is_ascii_digit after _ all)

-- what two numerals denote, with at most 6 places
pub decimal_from-numerals : (whole after places : List ℕ) (n u : ℕ) → true ≡ is_numeral whole → true ≡ is_numeral after → places ≡ without_last_zeros after → length places ≤ 6 → n ≡ min (digits_value_after 10 0 whole) (10 ^ 18) → u ≡ min (digits_value_after 10 n places) (10 ^ 18) → Ok (record { units = u; places = length places }) ≡ (if is_numeral whole && is_numeral after then decimal_from whole (without_last_zeros after) else Err Bad)
decimal_from-numerals whole after places n u hw ha ep few en eu =
    let test : nat_le (length places) 6 ≡ true = grind (arith, nat_tests) in
    let all : u ≡ min (digits_value 10 (whole ++ places)) (10 ^ 18) =
    eu ∙ ap (λ k. min (digits_value_after 10 k places) (10 ^ 18)) en ∙ min-digits_value (10 ^ 18) whole places (omega arith) in
    rw (← hw, ← ha, ← ep, test, all) refl
