-- A fraction as a number with six places, rounded down (this program's own text).
use Rattle.std.specs.Prelude.{ℕ, ◌+◌, ◌*◌, ◌/◌, ◌%◌, List, [], ◌∷◌, ◌++◌}
use Rattle.std.specs.Fmt.{decimal}
use Rattle.rp_num.specs.Fraction.{Fraction}

-- how many whole millionths a fraction has
abbrev pub millionths : Fraction → ℕ
millionths f = f.num * 1000000 / f.den

-- the last digit of a number
abbrev pub digit_of : ℕ → ℕ
digit_of n = 48 + n % 10

-- so many millionths as a number with six places
abbrev pub places_text : ℕ → List ℕ
places_text m = decimal (m / 1000000) ++ 46 ∷ digit_of (m / 100000) ∷ digit_of (m / 10000) ∷ digit_of (m / 1000)
    ∷ digit_of (m / 100) ∷ digit_of (m / 10) ∷ digit_of m ∷ []

abbrev pub floor_text : Fraction → List ℕ
floor_text f = places_text (millionths f)
