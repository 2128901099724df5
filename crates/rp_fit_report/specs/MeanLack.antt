-- The mean of what levels lack of 1, as a fraction over the least common denominator (arithmetic).
use Rattle.std.specs.Prelude.{ℕ, zero, suc, ◌*◌, ◌/◌}
use Rattle.rp_num.specs.Fraction.{Fraction}
use Rattle.rp_fit.specs.Levels.{lack, lack_den}
use Rattle.rp_fit.specs.LevelsEvidence.{level_den, level_num, power_of}
use Rattle.rp_fit.specs.declared.levels.LevelsPart.{LevelsPart}
use Rattle.rp_print.specs.LowestTerms.{lowest_terms}
use Rattle.rp_table.specs.Sums.{sum_below}

-- what the level of s lacks of 1, to the power of the index, in lowest terms
abbrev pub lack_of : (ℕ → ℕ → ℕ) → LevelsPart → ℕ → Fraction
lack_of c part s =
    lowest_terms (lack (power_of part.lack) (level_num c part) (level_den c) s) (lack_den (power_of part.lack) (level_den c) s)

-- the least common multiple of a and b: a times the denominator of a/b in lowest terms
abbrev pub least_multiple : ℕ → ℕ → ℕ
least_multiple a b = a * (lowest_terms a b).den

-- the least common denominator of the first n fractions
abbrev pub common_den : ℕ → (ℕ → Fraction) → ℕ
common_den zero f = 1
common_den (suc n) f = least_multiple (common_den n f) (f n).den

-- a fraction, in parts of a denominator
abbrev pub parts_in : ℕ → Fraction → ℕ
parts_in den f = f.num * (den / f.den)

-- the mean of the first n fractions, in lowest terms
abbrev pub mean_of : ℕ → (ℕ → Fraction) → Fraction
mean_of n f = lowest_terms (sum_below n (λ s. parts_in (common_den n f) (f s))) (common_den n f * n)
