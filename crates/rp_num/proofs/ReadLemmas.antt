-- Numbers that are printed are read.
use Rattle.std.proofs.Common.{◌≡◌, ◌≢◌, ◌-◌, ℕ, ℤ, pos, negsuc, suc, ◌^◌, ◌<◌, List, ◌∷◌, Some, None, Result, Ok, Err, refl, sym, ap, subst, ◌∙◌, arith}
use Rattle.std.specs.Fmt.{decimal, signed_decimal}
use Rattle.std.specs.Str.Parse.{ParsesUnsigned, ParsesSigned}
use Rattle.std.specs.Int.{w128}
use Rattle.std.specs.Prelude.{FitsSigned}
use Rattle.std.proofs.lemmas.Str.Parse.{numerals_by_value, tells_digits, parse_signed_digits, parse_signed_minus}
use Rattle.std.proofs.lemmas.Result.{Ok-from_Ok_iff}
use lib.IntN.{neg_ℤ}
use Rattle.std.proofs.lemmas.Fmt.{parse-decimal_wide, decimal_is_IsNumeral_wide}
use Rattle.rp_num.specs.Spelled.{FitsSum, FitsWhole, IsSpelled}

pub narrow : (n : ℕ) → n < 2 ^ 128 → n < 10 ^ 64
narrow n h = omega arith

pub parsed : {E : Type 0} (n : ℕ) (text : List ℕ) (r : Result ℕ E) → FitsWhole n → decimal n ≡ text → ParsesUnsigned 128 10 text r → r ≡ Ok n
parsed n text r h e p = parse-decimal_wide 128 n text r h (narrow n h) (sym e) p

-- the only value that a text can be was printed and compared
pub spelled : {X : Type 0} (shown : X → List ℕ) (fits : X → Type 0) (text : List ℕ) (x : X) → fits x → shown x ≡ text → IsSpelled shown fits text (Some x)
spelled shown fits text x h e = (e, h)

pub not_spelled : {X : Type 0} (shown : X → List ℕ) (fits : X → Type 0) (text : List ℕ) (x : X) → ((y : X) → fits y → shown y ≡ text → y ≡ x) → shown x ≢ text → IsSpelled shown fits text None
not_spelled shown fits text x only n y h e = n (ap shown (sym (only y h e)) ∙ e)

pub Ok-injective : {A E : Type 0} (a b : A) (r : Result A E) → r ≡ Ok a → r ≡ Ok b → a ≡ b
Ok-injective a b (Ok x) p q = search
Ok-injective a b (Err e) p q = absurd cc

-- the same for a whole number with its sign
pub parsed_sum : {E : Type 0} (z : ℤ) (text : List ℕ) (r : Result ℤ E) → FitsSum z → signed_decimal z ≡ text → ParsesSigned w128 10 text r → r ≡ Ok z
parsed_sum (pos n) text r h e p =
    let k = decimal_is_IsNumeral_wide n (omega arith) in
    let read = parse_signed_digits (numerals_by_value _ tells_digits) w128 (decimal n) r (subst (λ l. ParsesSigned w128 10 l r) (sym e) p) k.0.1 in
    Ok-from_Ok_iff r _ _ read (k.0.0, omega (arith, k.1, h)) ∙ ap (λ m. Ok (pos m)) k.1
parsed_sum (negsuc n) text r h e p =
    let k = decimal_is_IsNumeral_wide (suc n) (omega arith) in
    let read = parse_signed_minus (numerals_by_value _ tells_digits) w128 (45 ∷ decimal (suc n)) r (subst (λ l. ParsesSigned w128 10 l r) (sym e) p) refl in
    Ok-from_Ok_iff r _ _ read (k.0.1, k.0.0, omega (arith, k.1, h)) ∙ ap (λ m. Ok (neg_ℤ (pos m))) k.1

-- every number of 128 bits but the least fits
pub fits_sum : (z : ℤ) → FitsSigned w128 z → z ≢ negsuc (2 ^ 127 - 1) → FitsSum z
fits_sum (pos n) h n_least = h.sfits
fits_sum (negsuc n) h n_least = below (λ e. n_least (ap negsuc e)) h.sfits
  where
    below : n ≢ 2 ^ 127 - 1 → n < 2 ^ 127 → suc n < 2 ^ 127
    below p q = omega arith

pub least_too_wide : (z : ℤ) → z ≡ negsuc (2 ^ 127 - 1) → FitsSum z → ⊥
least_too_wide (pos n) e h = absurd cc
least_too_wide (negsuc n) e h = omega (arith, negsuc_parts n (2 ^ 127 - 1) e)
  where
    negsuc_parts : (a b : ℕ) → negsuc a ≡ negsuc b → a ≡ b
    negsuc_parts a b q = ap mag_of q
      where
        mag_of : ℤ → ℕ
        mag_of (pos m) = m
        mag_of (negsuc m) = m
