-- The line of the command `pairs` (this program's own text).
use Rattle.std.specs.Prelude.{◌≡◌, ℕ, List, [], ◌∷◌, ◌++◌, Option, Some, None, IfSome, codes}
use Rattle.rp_table.specs.Tables.{Observations, records_of}
use Rattle.rp_table.specs.Cost.{cost_of}
use Rattle.rp_evidence.specs.Input.{input_of_table}
use Rattle.rp_garp.specs.Pairs.{IsOwnPairs}
use Rattle.rp_people.specs.Rationalizing.{NoneHasBoth}
use Rattle.rp_people.specs.TableChoices.{choices_of}
use Rattle.rp_print.specs.ListText.{line_of, ordinals_text}

-- `pair S T`, with the observations counted from 1, or `pair none`
abbrev pub pairs_line : Option (ℕ × ℕ) → List ℕ
pairs_line None = line_of (codes "pair none")
pairs_line (Some p) = line_of (codes "pair " ++ ordinals_text (p.0 ∷ p.1 ∷ []))

-- by no preference are both observations the best of what they afford
abbrev pub SaysOfPair : Observations → Option (ℕ × ℕ) → Type 0
SaysOfPair table found = IfSome found (λ p. NoneHasBoth (choices_of (input_of_table table)) p.0 p.1)

-- the text names the first two observations of the table that contradict each other, or none where there are none; each
-- is held to its level, where the table has levels; a pair that is named no preference survives
abbrev pub IsPairsText : Observations → List ℕ → Type 0
IsPairsText table text =
    (found : Option (ℕ × ℕ)) × IsOwnPairs (records_of table) table.levels (cost_of table) found
    × SaysOfPair table found × (text ≡ pairs_line found)
