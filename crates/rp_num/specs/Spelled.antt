-- Numbers that are read from just the texts that they are printed as (this project's own format).
use Rattle.std.specs.Prelude.{◌≡◌, ◌≢◌, ℕ, suc, ◌^◌, ◌<◌, ℤ, pos, negsuc, List, Option, Some, None}
use Rattle.rp_num.specs.Fraction.{Fraction, FitsWidth, IsLowestTerms}

-- What is read of a text: the value that is printed so, or that none within the limits is.
abbrev pub IsSpelled : {X : Type 0} → (X → List ℕ) → (X → Type 0) → List ℕ → Option X → Type 0
IsSpelled printed fits text (Some x) = (printed x ≡ text) × fits x
IsSpelled printed fits text None = (x : _) → fits x → printed x ≢ text

-- A whole number of 128 bits that is not negative.
abbrev pub FitsWhole : ℕ → Type 0
FitsWhole n = n < 2 ^ 128

-- A whole number whose absolute value is below 2^127.
abbrev pub FitsSum : ℤ → Type 0
FitsSum (pos n) = n < 2 ^ 127
FitsSum (negsuc n) = suc n < 2 ^ 127

-- A fraction in lowest terms and within its width.
abbrev pub IsReduced : Fraction → Type 0
IsReduced f = IsLowestTerms f.num f.den f × FitsWidth f
