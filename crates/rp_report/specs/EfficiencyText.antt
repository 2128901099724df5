-- The lines of an efficiency index (this program's own format).
use Rattle.std.specs.Prelude.{ℕ, ◌==◌, if◌then◌else◌, List, [], ◌++◌, codes}
use Rattle.rp_num.specs.Fraction.{fraction_text}
use Rattle.rp_evidence.specs.declared.efficiency.Efficiency.{Efficiency}
use Rattle.rp_evidence.specs.declared.garp.Garp.{Garp}
use Rattle.rp_evidence.specs.declared.garp.Garp.TheVariants.{Ranks, Cycle}
use Rattle.rp_evidence.specs.declared.level.Level.{Level}
use Rattle.rp_print.specs.ListText.{line_of, numbers_text, ordinals_text}

-- a level with its numerator and its denominator as they stand
abbrev pub level_text : Level → List ℕ
level_text level = fraction_text (record { num = level.num; den = level.den })

-- whether the index is attained
abbrev pub attained_text : Garp → List ℕ
attained_text (Ranks ranks) = codes "yes"
attained_text (Cycle cycle) = codes "no"

-- the evidence at the index
abbrev pub at_text : Garp → List ℕ
at_text (Ranks ranks) = line_of (codes "at ranks " ++ numbers_text ranks)
at_text (Cycle cycle) = line_of (codes "at cycle " ++ ordinals_text cycle)

-- the evidence above a level, where it is not 1
abbrev pub above_text : Level → List ℕ → List ℕ
above_text level walk = if level.num == level.den then [] else line_of (codes "above " ++ ordinals_text walk)

-- the line of the efficiency index and of whether it is attained
abbrev pub index_text : Efficiency → List ℕ
index_text evidence =
    line_of (codes "efficiency " ++ level_text evidence.level ++ codes " attained " ++ attained_text evidence.at)

-- the efficiency index, with its evidence
abbrev pub efficiency_text : Efficiency → List ℕ
efficiency_text evidence =
    index_text evidence ++ line_of (codes "below " ++ numbers_text evidence.below)
    ++ above_text evidence.level evidence.above ++ at_text evidence.at
