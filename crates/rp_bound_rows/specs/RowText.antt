-- The text of the rows of bounds: a header, and a line for each bound that is asked, where a field is quoted if it has a
-- comma, a quote or an end of a line (the columns are this program's own).
use Rattle.std.specs.Prelude.{ℕ, List, [], ◌∷◌, ◌++◌, codes}
use Rattle.std.specs.Fmt.{decimal}
use Rattle.std.specs.List.{flat_map}
use Rattle.csv.specs.Writing.{row_text}
use Rattle.rp_num.specs.Fraction.{Fraction, fraction_text}
use Rattle.rp_rows.specs.Floors.{floor_text}
use Rattle.rp_rows.specs.RowText.{number_or_none, panel_writer, three_empty}
use Rattle.rp_bound_rows.specs.Amounts.{ceiling_text}
use Rattle.rp_bound_rows.specs.BoundFaults.{bound_fault_word, column_of_bound_fault, row_of_bound_fault}
use Rattle.rp_bound_rows.specs.declared.asked.BoundsAsked.{BoundsAsked}
use Rattle.rp_bound_rows.specs.declared.asked.BoundsAsked.TheVariants.{Demand, Welfare}
use Rattle.rp_bound_rows.specs.declared.fault.BoundFault.{BoundFault}
use Rattle.rp_bound_rows.specs.declared.line.Line.{Line}
use Rattle.rp_bound_rows.specs.declared.row.BoundRow.{BoundRow}
use Rattle.rp_bound_rows.specs.declared.row.Bounds.{Bounds}
use Rattle.rp_bound_rows.specs.declared.row.FoundBounds.{FoundBounds}
use Rattle.rp_bound_rows.specs.declared.row.FoundBounds.TheVariants.{Bounds as BoundsFound, Fault as FaultFound}
use Rattle.rp_bound_rows.specs.declared.side.Side.{Side}
use Rattle.rp_bound_rows.specs.declared.side.Side.TheVariants.{Given, Violated, Withheld}

-- what the bounds are about
abbrev pub about_name : BoundsAsked → List ℕ
about_name Demand = codes "good"
about_name Welfare = codes "observation"

-- the header, with the names of the columns that are kept
abbrev pub header_fields : BoundsAsked → List (List ℕ) → List (List ℕ)
header_fields asked kept = (codes "household" ∷ codes "observations" ∷ codes "goods" ∷ codes "price" ∷ about_name asked
    ∷ codes "lower" ∷ codes "lower_floor" ∷ codes "upper" ∷ codes "upper_ceiling" ∷ codes "fault" ∷ codes "record"
    ∷ codes "column" ∷ []) ++ kept

-- a bound: its amount, or a word
abbrev pub side_text : Side → List ℕ
side_text (Given amount) = fraction_text amount
side_text Withheld = codes "withheld"
side_text Violated = codes "violated"

-- the amount of a bound by a text with six places, where it is given
abbrev pub places_or_none : (Fraction → List ℕ) → Side → List ℕ
places_or_none text (Given amount) = text amount
places_or_none text Withheld = []
places_or_none text Violated = []

-- a lower bound, and with six places, rounded down
abbrev pub lower_fields : Side → List (List ℕ)
lower_fields side = side_text side ∷ places_or_none floor_text side ∷ []

-- an upper bound, and with six places, rounded up
abbrev pub upper_fields : Side → List (List ℕ)
upper_fields side = side_text side ∷ places_or_none ceiling_text side ∷ []

-- the fields of a line of a household, and no fault
abbrev pub line_fields : BoundRow → Bounds → Line → List (List ℕ)
line_fields row bounds line = (row.household ∷ decimal bounds.observations ∷ decimal bounds.goods ∷ decimal line.price
    ∷ line.about ∷ []) ++ lower_fields line.bounds.lower ++ upper_fields line.bounds.upper ++ three_empty ++ row.kept

-- the fields of a household with a fault, and no bounds
abbrev pub fault_fields : BoundRow → BoundFault → List (List ℕ)
fault_fields row fault = (row.household ∷ [] ∷ [] ∷ [] ∷ [] ∷ [] ∷ [] ∷ [] ∷ [] ∷ bound_fault_word fault
    ∷ number_or_none (row_of_bound_fault fault) ∷ number_or_none (column_of_bound_fault fault) ∷ []) ++ row.kept

-- a line
abbrev pub line_text : BoundRow → Bounds → Line → List ℕ
line_text row bounds line = row_text panel_writer (line_fields row bounds line)

-- the lines at one record of the new prices
abbrev pub lines_text : BoundRow → Bounds → List Line → List ℕ
lines_text row bounds lines = flat_map (line_text row bounds) lines

-- what is found: the lines at each record of the new prices, or the line of a fault
abbrev pub found_text : BoundRow → FoundBounds → List ℕ
found_text row (BoundsFound bounds) = flat_map (lines_text row bounds) bounds.at
found_text row (FaultFound fault) = row_text panel_writer (fault_fields row fault)

-- the lines of a household
abbrev pub text_of_row : BoundRow → List ℕ
text_of_row row = found_text row row.found

abbrev pub header_text : BoundsAsked → List (List ℕ) → List ℕ
header_text asked kept = row_text panel_writer (header_fields asked kept)

-- the header, and the lines of each household
abbrev pub bound_rows_text : BoundsAsked → List (List ℕ) → List BoundRow → List ℕ
bound_rows_text asked kept rows = header_text asked kept ++ flat_map text_of_row rows
