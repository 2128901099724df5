-- The lines of the money pump and of the levels that closed walks bound (this program's own format).
use Rattle.std.specs.Prelude.{ℕ, ◌^◌, List, ◌++◌, codes}
use Rattle.rp_num.specs.Fraction.{Fraction, fraction_text}
use Rattle.rp_fit.specs.declared.homothetic_level.HomotheticLevelPart.{HomotheticLevelPart}
use Rattle.rp_fit.specs.declared.pump.PumpPart.{PumpPart}
use Rattle.rp_fit.specs.declared.quasilinear_level.QuasilinearLevelPart.{QuasilinearLevelPart}
use Rattle.rp_print.specs.ListText.{line_of, numbers_text, ordinals_text, sums_text}
use Rattle.rp_print.specs.LowestTerms.{lowest_terms}

-- the maximum ratio, a closed walk that has it, and values
abbrev pub pump_ratio_text : PumpPart → List ℕ
pump_ratio_text part =
    line_of (codes "pump " ++ fraction_text (lowest_terms part.num part.den)) ++ line_of (codes "cycle " ++ ordinals_text part.cycle)
    ++ line_of (codes "values " ++ sums_text part.values)

-- the level, a closed walk that has it, and values
abbrev pub quasilinear_level_text : QuasilinearLevelPart → List ℕ
quasilinear_level_text part =
    line_of (codes "quasilinear level " ++ fraction_text (lowest_terms part.num part.den))
    ++ line_of (codes "cycle " ++ ordinals_text part.walk) ++ line_of (codes "values " ++ sums_text part.values)

-- a number over 2^40
abbrev pub part_of_one : ℕ → Fraction
part_of_one number = lowest_terms number (2 ^ 40)

-- both bounds
abbrev pub bounds_text : ℕ → ℕ → List ℕ
bounds_text low high =
    line_of (codes "homothetic level " ++ fraction_text (part_of_one low) ++ codes " to " ++ fraction_text (part_of_one high))

-- both bounds, a closed walk with a mean at most the upper one, and values
abbrev pub homothetic_level_text : HomotheticLevelPart → List ℕ
homothetic_level_text part =
    bounds_text part.low part.high ++ line_of (codes "cycle " ++ ordinals_text part.walk)
    ++ line_of (codes "values " ++ numbers_text part.values)
