-- Amounts in the units of the files, and with six places (this program's own texts).
use Rattle.std.specs.Prelude.{ℕ, ◌+◌, ◌-◌, ◌*◌, ◌/◌, ◌^◌, List}
use Rattle.rp_num.specs.Fraction.{Fraction, IsLowestTerms}
use Rattle.rp_rows.specs.Floors.{places_text}

-- the scaled number num/den in the units of its file, in lowest terms, where its scale has so many places
abbrev pub IsInUnits : ℕ → ℕ → ℕ → Fraction → Type 0
IsInUnits places num den f = IsLowestTerms num (den * 10 ^ places) f

-- how many whole millionths are no less than a fraction, at least
abbrev pub ceiling_millionths : Fraction → ℕ
ceiling_millionths f = (f.num * 1000000 + (f.den - 1)) / f.den

-- a fraction with six places, rounded up
abbrev pub ceiling_text : Fraction → List ℕ
ceiling_text f = places_text (ceiling_millionths f)
