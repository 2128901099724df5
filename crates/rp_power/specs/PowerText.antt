-- The report on the power of the test (this program's own format).
use Rattle.std.specs.Prelude.{ℕ, List, ◌++◌, codes}
use Rattle.std.specs.Fmt.{decimal}
use Rattle.rp_print.specs.HeadText.{head_text}
use Rattle.rp_print.specs.ListText.{line_of}
use Rattle.rp_table.specs.Tables.{Observations}

-- the seed, how many behaviours were drawn, and how many of them fail the axiom
abbrev pub power_line : ℕ → ℕ → ℕ → List ℕ
power_line seed draws violations =
    line_of (codes "power " ++ decimal seed ++ codes " draws " ++ decimal draws ++ codes " violations "
    ++ decimal violations)

-- the line on the table, and that on the power
abbrev pub power_report : Observations → ℕ → ℕ → ℕ → List ℕ
power_report table seed draws violations = head_text table ++ power_line seed draws violations
