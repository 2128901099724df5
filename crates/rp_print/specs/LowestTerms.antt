-- The lowest terms of a fraction, by Euclid's algorithm (Euclid, Elements, book 7, proposition 2).
use Rattle.std.specs.Prelude.{ℕ, zero, suc, ◌/◌, ◌%◌}
use Rattle.rp_num.specs.Fraction.{Fraction}

-- Euclid's steps from a and b, so many at most: b and the rest of a by b, until the second number is 0
abbrev pub euclid : ℕ → ℕ → ℕ → ℕ
euclid zero a b = a
euclid (suc steps) a zero = a
euclid (suc steps) a (suc b) = euclid steps (suc b) (a % suc b)

-- the greatest common divisor; the second number falls in each step
abbrev pub divisor : ℕ → ℕ → ℕ
divisor a b = euclid b a b

-- num/den in lowest terms
abbrev pub lowest_terms : ℕ → ℕ → Fraction
lowest_terms num den = record { num = num / divisor num den; den = den / divisor num den }
