-- Fractions of evidence for the homothetic test, each in lowest terms and within its width (this project's own form).
use Rattle.std.specs.Prelude.{All}
use Rattle.rp_num.specs.Spelled.{IsReduced}
use Rattle.rp_evidence.specs.declared.homothetic.Homothetic.{Homothetic}
use Rattle.rp_evidence.specs.declared.homothetic.Homothetic.TheVariants.{Values, Cycle, Withheld}

-- Each value, or the start.
abbrev pub AreReduced : Homothetic → Type 0
AreReduced (Values values) = All IsReduced values
AreReduced (Cycle start steps) = IsReduced start
AreReduced (Withheld steps from to) = Unit {0}
