-- The lines of a verdict of the homothetic test (this program's own format).
use Rattle.std.specs.Prelude.{ℕ, List, ◌++◌, codes}
use Rattle.std.specs.Fmt.{decimal}
use Rattle.rp_num.specs.Fraction.{fraction_text}
use Rattle.rp_evidence.specs.declared.homothetic.Homothetic.{Homothetic}
use Rattle.rp_evidence.specs.declared.homothetic.Homothetic.TheVariants.{Values, Cycle, Withheld}
use Rattle.rp_print.specs.ListText.{fractions_text, line_of, ordinal_text, ordinals_text}

-- a verdict of the homothetic test
abbrev pub homothetic_text : Homothetic → List ℕ
homothetic_text (Values values) =
    line_of (codes "homothetic holds") ++ line_of (codes "values " ++ fractions_text values)
homothetic_text (Cycle start cycle) =
    line_of (codes "homothetic violated") ++ line_of (codes "start " ++ fraction_text start)
    ++ line_of (codes "cycle " ++ ordinals_text cycle)
homothetic_text (Withheld steps from to) =
    line_of (codes "homothetic withheld steps " ++ decimal steps ++ codes " from " ++ ordinal_text from
    ++ codes " to " ++ ordinal_text to)
