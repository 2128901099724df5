-- Bounds with the pairs that show them (this program's own format).
use Rattle.std.specs.Prelude.{ℕ, List, [], ◌++◌, codes}
use Rattle.std.specs.Fmt.{decimal}
use Rattle.rp_num.specs.Fraction.{fraction_text}
use Rattle.rp_evidence.specs.declared.demand.Bound.{Bound}
use Rattle.rp_evidence.specs.declared.demand.Bound.TheVariants.{Shown, Wide}
use Rattle.rp_farkas.specs.declared.entry.Entry.{Entry}
use Rattle.rp_farkas.specs.declared.entry.Pair.{Pair}
use Rattle.rp_print.specs.ListText.{line_of, list_text, numbers_text, ordinal_text}

-- a bound: its value, or the step at which the run of its program passes its width
abbrev pub bound_text : Bound → List ℕ
bound_text (Shown value pair) = fraction_text value
bound_text (Wide step) = codes "withheld " ++ decimal step

-- an entry of a point: its column, which is counted from 1, and its value
abbrev pub entry_text : Entry → List ℕ
entry_text entry = ordinal_text entry.at ++ codes ":" ++ decimal entry.value

-- a pair: its prices, the positive entries of its point, and their denominator
abbrev pub pair_text : Pair → List ℕ
pair_text pair = codes "x " ++ numbers_text pair.x ++ codes " y " ++ list_text entry_text pair.y
    ++ codes " over " ++ decimal pair.den

-- the line of a shown bound's pair, after a word
abbrev pub pair_line : List ℕ → Bound → List ℕ
pair_line word (Shown value pair) = line_of (word ++ pair_text pair)
pair_line word (Wide step) = []

-- a bound from below, and a cost from above with the observation that has it
abbrev pub bounds_text : Bound → ℕ → ℕ → List ℕ
bounds_text lower upper at =
    codes " lower " ++ bound_text lower ++ codes " upper " ++ decimal upper ++ codes " at " ++ ordinal_text at
