-- The lines of levels of the observations' own (this program's own format).
use Rattle.std.specs.Prelude.{ℕ, ◌+◌, ◌*◌, ◌^◌, ◌==◌, if◌then◌else◌, Bool, true, false, List, [], ◌++◌, codes, nat_lt, slice_index}
use Rattle.rp_num.specs.Below.{listed}
use Rattle.rp_num.specs.Fraction.{Fraction, fraction_text}
use Rattle.rp_check_levels.specs.LevelsFailure.{measure_of}
use Rattle.rp_check_levels.specs.Loads.{limit}
use Rattle.rp_check_levels.specs.declared.measure.Measure.{Measure}
use Rattle.rp_fit.specs.WeightedWalks.{weight_of_all}
use Rattle.rp_fit.specs.declared.levels.Lack.{Lack}
use Rattle.rp_fit.specs.declared.levels.Lack.TheVariants.{Mean, Squares}
use Rattle.rp_fit.specs.declared.levels.LevelsPart.{LevelsPart}
use Rattle.rp_print.specs.ListText.{fractions_text, line_of, numbers_text}
use Rattle.rp_print.specs.LowestTerms.{lowest_terms}
use Rattle.rp_table.specs.Sums.{sum_below}
use Rattle.rp_fit_report.specs.CyclesText.{cycles_text}
use Rattle.rp_fit_report.specs.MeanLack.{common_den, lack_of, mean_of}

-- what the level of s lacks of 1 in units of 2^-40, rounded down, and so many more where it is below 1
abbrev pub lack_at : (ℕ → ℕ → ℕ) → Measure → List ℕ → ℕ → ℕ → ℕ
lack_at c measure at more s = if slice_index at s == s then 0 else (limit measure c s (slice_index at s) + more)

-- the sum of these over n observations
abbrev pub lack_total : ℕ → (ℕ → ℕ → ℕ) → LevelsPart → ℕ → ℕ
lack_total n c part more = sum_below n (lack_at c (measure_of part.lack) part.at more)

-- the lower bound of the index, by the weights of the walks
abbrev pub lower : ℕ → LevelsPart → Fraction
lower n part = lowest_terms (weight_of_all part.walks) (part.den * 2 ^ 40 * n)

-- an upper bound, rounded up for each observation
abbrev pub rounded_up : ℕ → (ℕ → ℕ → ℕ) → LevelsPart → Fraction
rounded_up n c part = lowest_terms (lack_total n c part 1) (2 ^ 40 * n)

-- the upper bound: the mean of what the levels lack of 1, where the number of observations times the least common
-- denominator is within the width of fractions; else it is rounded up
abbrev pub upper : ℕ → (ℕ → ℕ → ℕ) → LevelsPart → Fraction
upper n c part = if nat_lt (common_den n (lack_of c part) * n) (2 ^ 127) then mean_of n (lack_of c part) else rounded_up n c part

-- the weights leave less than 2^-40 for each observation
abbrev pub is_exact : ℕ → (ℕ → ℕ → ℕ) → LevelsPart → Bool
is_exact n c part = nat_lt (part.den * lack_total n c part 0) (weight_of_all part.walks + part.den)

abbrev pub exact_text : Bool → List ℕ
exact_text true = codes " exact"
exact_text false = []

abbrev pub measure_text : Lack → List ℕ
measure_text Mean = codes "levels mean "
measure_text Squares = codes "levels squares "

-- both bounds
abbrev pub range_text : List ℕ → Fraction → Fraction → Bool → List ℕ
range_text word low high exact =
    line_of (word ++ fraction_text low ++ codes " to " ++ fraction_text high ++ exact_text exact)

-- the level of s
abbrev pub level_of : (ℕ → ℕ → ℕ) → List ℕ → ℕ → Fraction
level_of c at s = lowest_terms (c s (slice_index at s)) (c s s)

-- the bounds, the levels with a rank each, and the walks
abbrev pub levels_text : ℕ → (ℕ → ℕ → ℕ) → LevelsPart → List ℕ
levels_text n c part =
    range_text (measure_text part.lack) (lower n part) (upper n c part) (is_exact n c part)
    ++ line_of (codes "at " ++ fractions_text (listed n (level_of c part.at)))
    ++ line_of (codes "ranks " ++ numbers_text part.ranks) ++ cycles_text part.den part.walks
