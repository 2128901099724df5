-- Numbers that are read from the texts of JSON values.
use Rattle.std.proofs.Common.{◌≡◌, ◌≢◌, ℕ, suc, ◌^◌, ◌<◌, ℤ, pos, negsuc, List, [], ◌∷◌, Option, Some, None, Result, Ok, Err, IfOk, refl, sym, ap, subst, ◌∙◌, arith}
use Rattle.std.specs.Fmt.{decimal, signed_decimal}
use Rattle.std.specs.Str.Parse.{AllDigits}
use Rattle.std.proofs.lemmas.Fmt.{decimal_is_IsNumeral_wide}
use Rattle.std.proofs.lemmas.Str.Parse.{digit_from_value}
use Rattle.serde_json.specs.Data.{Data, null, boolean, number, string, array, object}
use Rattle.serde_json.specs.Find.{as_str}
use Rattle.rp_num.specs.Spelled.{FitsSum, FitsWhole, IsSpelled}
use Rattle.rp_num.proofs.FractionText.{same_number}
use Rattle.rp_num.proofs.ReadLemmas.{narrow}
use Rattle.rp_json_entries.specs.Reading.{IsFound}

-- a value whose text is at hand
pub is_text : (d : Data) (text : List ℕ) → Some text ≡ as_str d → d ≡ string text
is_text null text e = absurd cc
is_text (boolean b) text e = absurd cc
is_text (number n) text e = absurd cc
is_text (string s) text e = ap string (sym (some_same text s e))
  where
    some_same : (a b : List ℕ) → Some a ≡ Some b → a ≡ b
    some_same a b p = search
is_text (array ds) text e = absurd cc
is_text (object ms) text e = absurd cc

abbrev text_in : Data → List ℕ
text_in (string s) = s
text_in _ = []

same_text : (a b : List ℕ) → string a ≡ string b → a ≡ b
same_text a b e = ap text_in e

-- an entry that is spelled in a text, of which no two are spelled alike
pub found : {X : Type 0} (value_of : X → List ℕ) (fits limits : X → Type 0) (d : Data) (text : List ℕ) (x : X)
    → ((y z : X) → fits y → fits z → value_of y ≡ value_of z → y ≡ z) → ((y : X) → limits y → fits y)
    → Some text ≡ as_str d → IsSpelled value_of fits text (Some x) → limits x → IsFound (λ y. string (value_of y)) limits d (Some x)
found value_of fits limits d text x one within at spelled h =
    let is = is_text d text at in
    (ap string spelled.0 ∙ sym is, h, λ y hy e. one y x (within y hy) spelled.1 (same_text (value_of y) text (e ∙ is) ∙ sym spelled.0))

-- no entry within the limits is spelled in the text
pub missing : {X : Type 0} (value_of : X → List ℕ) (fits limits : X → Type 0) (d : Data) (text : List ℕ) (o : Option X)
    → ((y z : X) → fits y → fits z → value_of y ≡ value_of z → y ≡ z) → ((y : X) → limits y → fits y)
    → Some text ≡ as_str d → IsSpelled value_of fits text o → ((x : X) → o ≡ Some x → ¬ limits x) → (y : X) → limits y → string (value_of y) ≢ d
missing value_of fits limits d text (Some x) one within at spelled past y hy e =
    let same : y ≡ x = one y x (within y hy) spelled.1 (same_text (value_of y) text (e ∙ is_text d text at) ∙ sym spelled.0) in
    past x refl (subst limits same hy)
missing value_of fits limits d text None one within at spelled past y hy e =
    spelled y (within y hy) (same_text (value_of y) text (e ∙ is_text d text at))

-- what is read of a text is what is read of the value
pub read_as_text : {X : Type 0} (value_of : X → List ℕ) (fits : X → Type 0) (d : Data) (text : List ℕ) (o : Option X)
    → ((y z : X) → fits y → fits z → value_of y ≡ value_of z → y ≡ z)
    → Some text ≡ as_str d → IsSpelled value_of fits text o → IsFound (λ y. string (value_of y)) fits d o
read_as_text value_of fits d text (Some x) one at spelled = found value_of fits fits d text x one (λ y h. h) at spelled spelled.1
read_as_text value_of fits d text None one at spelled =
    missing value_of fits fits d text None one (λ y h. h) at spelled (λ x e. absurd cc)

pub if_read_as_text : {X E : Type 0} (value_of : X → List ℕ) (fits : X → Type 0) (d : Data) (text : List ℕ) (r : Result (Option X) E)
    → ((y z : X) → fits y → fits z → value_of y ≡ value_of z → y ≡ z)
    → Some text ≡ as_str d → IfOk r (λ o. IsSpelled value_of fits text o) → IfOk r (λ o. IsFound (λ y. string (value_of y)) fits d o)
if_read_as_text value_of fits d text (Ok o) one at spelled = read_as_text value_of fits d text o one at spelled
if_read_as_text value_of fits d text (Err e) one at spelled = tt

-- ---- no two numbers are written alike

pub one_whole : (m n : ℕ) → FitsWhole m → FitsWhole n → decimal m ≡ decimal n → m ≡ n
one_whole m n hm hn e = same_number m n (decimal n) hm hn e refl

no_minus : (n : ℕ) (ds : List ℕ) → n < 2 ^ 128 → decimal n ≢ 45 ∷ ds
no_minus n ds h e = omega (arith, digit_from_value 45 (subst (AllDigits 10) e (decimal_is_IsNumeral_wide n (narrow n h)).0.1).0)

abbrev rest_of : List ℕ → List ℕ
rest_of [] = []
rest_of (c ∷ cs) = cs

pub one_sum : (y z : ℤ) → FitsSum y → FitsSum z → signed_decimal y ≡ signed_decimal z → y ≡ z
one_sum (pos m) (pos n) hm hn e = ap pos (one_whole m n (omega (arith, hm)) (omega (arith, hn)) e)
one_sum (pos m) (negsuc n) hm hn e = absurd (no_minus m (decimal (suc n)) (omega (arith, hm)) e)
one_sum (negsuc m) (pos n) hm hn e = absurd (no_minus n (decimal (suc m)) (omega (arith, hn)) (sym e))
one_sum (negsuc m) (negsuc n) hm hn e =
    let same : suc m ≡ suc n = one_whole (suc m) (suc n) (omega (arith, hm)) (omega (arith, hn)) (ap rest_of e) in
    ap negsuc (omega (arith, same))
