-- The lines of a verdict of the quasilinear test (this program's own format).
use Rattle.std.specs.Prelude.{ℕ, List, ◌++◌, codes}
use Rattle.rp_evidence.specs.declared.quasilinear.Quasi.{Quasi}
use Rattle.rp_evidence.specs.declared.quasilinear.Quasi.TheVariants.{Values, Cycle}
use Rattle.rp_print.specs.ListText.{line_of, ordinals_text, sums_text}

-- a verdict of the quasilinear test
abbrev pub quasilinear_text : Quasi → List ℕ
quasilinear_text (Values values) =
    line_of (codes "quasilinear holds") ++ line_of (codes "values " ++ sums_text values)
quasilinear_text (Cycle cycle) =
    line_of (codes "quasilinear violated") ++ line_of (codes "cycle " ++ ordinals_text cycle)
