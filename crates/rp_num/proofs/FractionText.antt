-- The text of a fraction is read.
use Rattle.std.proofs.Common.{◌≡◌, ◌≢◌, ℕ, suc, ◌+◌, ◌^◌, ◌<◌, List, [], ◌∷◌, ◌++◌, take, drop, length, length-append, eqb-true, Bool, true, false, ◌==◌, if◌then◌else◌, Option, Some, None, Result, Ok, Err, IfOk, IfSome, refl, sym, ap, subst, ◌∙◌, arith, ne_eqb}
use Rattle.std.specs.Fmt.{decimal}
use Rattle.std.specs.List.{before_first, after_first, position_or_len}
use Rattle.std.specs.Str.Parse.{AllDigits, digits_value}
use Rattle.std.proofs.lemmas.Fmt.{decimal_is_IsNumeral_wide, decimal_digit}
use Rattle.std.proofs.lemmas.Str.Parse.{digit_from_value}
use Rattle.rp_num.specs.Fraction.{FitsTerm, FitsWidth, Fraction, IsLowestTerms, fraction_text}
use Rattle.rp_num.specs.Spelled.{IsReduced, IsSpelled}
use Rattle.rp_num.proofs.Lowest.{same_IsLowestTerms}
use Rattle.rp_num.proofs.ReadLemmas.{narrow}

abbrev stroke : ℕ → Bool
stroke b = b == 47

no_digit : (c : ℕ) (cs : List ℕ) → AllDigits 10 (c ∷ cs) → stroke c ≡ false
no_digit c cs d = ne_eqb c 47 (λ e. omega (arith, digit_from_value c d.0))

-- digits have no stroke
without : (ds : List ℕ) → AllDigits 10 ds → position_or_len stroke ds ≡ length ds
without [] d = refl
without (c ∷ cs) d = rw (no_digit c cs d) (omega (arith, without cs d.1))

place : (ds rest : List ℕ) → AllDigits 10 ds → position_or_len stroke (ds ++ 47 ∷ rest) ≡ length ds
place [] rest d = refl
place (c ∷ cs) rest d = rw (no_digit c cs d) (omega (arith, place cs rest d.1))

take_here : (ds rest : List ℕ) → take (length ds) (ds ++ rest) ≡ ds
take_here [] rest = refl
take_here (c ∷ cs) rest = ap (λ xs. c ∷ xs) (take_here cs rest)

drop_here : (ds : List ℕ) (c : ℕ) (rest : List ℕ) → drop (suc (length ds)) (ds ++ c ∷ rest) ≡ rest
drop_here [] c rest = refl
drop_here (d ∷ ds) c rest = drop_here ds c rest

front : (ds rest : List ℕ) → AllDigits 10 ds → before_first stroke (ds ++ 47 ∷ rest) ≡ ds
front ds rest d = ap (λ k. take k (ds ++ 47 ∷ rest)) (place ds rest d) ∙ take_here ds (47 ∷ rest)

back : (ds rest : List ℕ) → AllDigits 10 ds → after_first stroke (ds ++ 47 ∷ rest) ≡ rest
back ds rest d =
    let e : position_or_len stroke (ds ++ 47 ∷ rest) + 1 ≡ suc (length ds) = omega (arith, place ds rest d) in
    ap (λ k. drop k (ds ++ 47 ∷ rest)) e ∙ drop_here ds 47 rest

digits : (n : ℕ) → n < 2 ^ 127 → AllDigits 10 (decimal n)
digits n h = (decimal_is_IsNumeral_wide n (omega arith)).0.1

some_parts : (b : Bool) (n d : ℕ) (text before after : List ℕ) → n < 2 ^ 127 → (if b then decimal n else (decimal n ++ 47 ∷ decimal d)) ≡ text
    → (before ≡ before_first stroke text) × (after ≡ after_first stroke text) × (position_or_len stroke text < length text) → (before ≡ decimal n) × (after ≡ decimal d)
some_parts true n d text before after hn e parts =
    absurd (omega (arith, parts.2, subst (λ t. position_or_len stroke t ≡ length t) e (without (decimal n) (digits n hn))))
some_parts false n d text before after hn e parts = (
  parts.0 ∙ ap (before_first stroke) (sym e) ∙ front (decimal n) (decimal d) (digits n hn),
  parts.1 ∙ ap (after_first stroke) (sym e) ∙ back (decimal n) (decimal d) (digits n hn),
)

none_parts : (b : Bool) (n d : ℕ) (text : List ℕ) → n < 2 ^ 127 → (b ≡ true → d ≡ 1) → (if b then decimal n else (decimal n ++ 47 ∷ decimal d)) ≡ text
    → position_or_len stroke text ≡ length text → (text ≡ decimal n) × (49 ∷ [] ≡ decimal d)
none_parts true n d text hn one e all = (sym e, sym (ap decimal (one refl) ∙ decimal_digit 1 (omega arith)))
none_parts false n d text hn one e all =
    let at = place (decimal n) (decimal d) (digits n hn) in
    let len = length-append (decimal n) (47 ∷ decimal d) in
    absurd (omega (arith, at, len, subst (λ t. position_or_len stroke t ≡ length t) (sym e) all))

is_one : (d : ℕ) → (d == 1) ≡ true → d ≡ 1
is_one d h = omega (arith, eqb-true d 1 h)

pub parts_where_stroke : (f : Fraction) (text before after : List ℕ) → FitsWidth f → fraction_text f ≡ text
    → (before ≡ before_first stroke text) × (after ≡ after_first stroke text) × (position_or_len stroke text < length text) → (before ≡ decimal f.num) × (after ≡ decimal f.den)
parts_where_stroke f text before after h e parts = some_parts (f.den == 1) f.num f.den text before after h.num_fits e parts

pub parts_where_none : (f : Fraction) (text : List ℕ) → FitsWidth f → fraction_text f ≡ text → position_or_len stroke text ≡ length text → (text ≡ decimal f.num) × (49 ∷ [] ≡ decimal f.den)
parts_where_none f text h e all = none_parts (f.den == 1) f.num f.den text h.num_fits (is_one f.den) e all

-- one text, one number
pub same_number : (m n : ℕ) (text : List ℕ) → m < 2 ^ 128 → n < 2 ^ 128 → decimal m ≡ text → decimal n ≡ text → m ≡ n
same_number m n text hm hn em en =
    sym (decimal_is_IsNumeral_wide m (narrow m hm)).1 ∙ ap (digits_value 10) (em ∙ sym en) ∙ (decimal_is_IsNumeral_wide n (narrow n hn)).1

pub part_read : (o : Option ℕ) (p : ℕ) (text : List ℕ) (fits : ℕ → Type 0) → IsSpelled decimal fits text o → o ≡ Some p → (decimal p ≡ text) × fits p
part_read o p text fits h e = subst (IsSpelled decimal fits text) e h

-- the fraction that is shown as this text is the one that its parts make
pub same_fraction : (f found : Fraction) (num den : ℕ) (before after : List ℕ) → IsReduced f → (before ≡ decimal f.num) × (after ≡ decimal f.den)
    → (decimal num ≡ before) × FitsTerm num → (decimal den ≡ after) × FitsTerm den → IsLowestTerms num den found → found ≡ f
same_fraction f found num den before after h parts hn hd low =
    let en : num ≡ f.num = same_number num f.num before (omega (arith, hn.1)) (omega (arith, h.1.num_fits)) hn.0 (sym parts.0) in
    let ed : den ≡ f.den = same_number den f.den after (omega (arith, hd.1)) (omega (arith, h.1.den_fits)) hd.0 (sym parts.1) in
    let low_of : IsLowestTerms f.num f.den found = subst (λ d. IsLowestTerms f.num d found) ed (subst (λ n. IsLowestTerms n den found) en low) in
    same_IsLowestTerms f.num f.den found f h.0.positive low_of h.0

pub if_printed : {E : Type 0} (r : Result (Option Fraction) E) (text : List ℕ) (found : Fraction) → IsReduced found
    → IfOk r (λ o. IfSome o (λ f. (f ≡ found) × (fraction_text f ≡ text))) → IfOk r (λ o. (o ≡ None) → fraction_text found ≢ text)
    → ((f : Fraction) → IsReduced f → fraction_text f ≡ text → found ≡ f)
    → IfOk r (λ o. IsSpelled fraction_text IsReduced text o)
if_printed (Ok (Some f)) text found h some none only = (some.1, subst IsReduced (sym some.0) h)
if_printed (Ok None) text found h some none only = λ f hf e. none refl (ap fraction_text (only f hf e) ∙ e)
if_printed (Err e) text found h some none only = tt

-- no fraction has the denominator 0
pub no_zero : (f : Fraction) (den : ℕ) (after : List ℕ) → IsReduced f → after ≡ decimal f.den → (decimal den ≡ after) × FitsTerm den → den ≡ 0 → ⊥
no_zero f den after h part read zero_den =
    let same : den ≡ f.den = same_number den f.den after (omega (arith, read.1)) (omega (arith, h.1.den_fits)) read.0 (sym part) in
    omega (arith, same, zero_den, h.0.positive)
