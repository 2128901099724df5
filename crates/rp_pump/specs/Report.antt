-- The report on the greatest money pump ratio (this program's own format).
use Rattle.std.specs.Prelude.{ℕ, List, ◌++◌, codes}
use Rattle.rp_num.specs.Fraction.{fraction_text}
use Rattle.rp_print.specs.HeadText.{head_text}
use Rattle.rp_print.specs.ListText.{line_of, ordinals_text, sums_text}
use Rattle.rp_print.specs.LowestTerms.{lowest_terms}
use Rattle.rp_fit.specs.declared.pump.PumpPart.{PumpPart}
use Rattle.rp_table.specs.Tables.{Observations}

-- the line on the table, the ratio in lowest terms, a closed walk that has it, and the values
abbrev pub pump_report : Observations → PumpPart → List ℕ
pump_report table part =
    head_text table ++ line_of (codes "pump " ++ fraction_text (lowest_terms part.num part.den))
    ++ line_of (codes "cycle " ++ ordinals_text part.cycle) ++ line_of (codes "values " ++ sums_text part.values)
