-- The text of rows: a table of comma-separated values (RFC 4180) with a header, where a field is quoted if it has a comma,
-- a quote or an end of a line (the columns are this program's own).
use Rattle.std.specs.Prelude.{ℕ, List, [], ◌∷◌, ◌++◌, Option, Some, None, codes, true}
use Rattle.std.specs.Fmt.{decimal}
use Rattle.std.specs.List.{flat_map}
use Rattle.csv.specs.Writing.{default_writer, row_text, with_flexible}
use Rattle.csv.specs.declared.writer.WriterBuilder.{WriterBuilder}
use Rattle.rp_num.specs.Fraction.{Fraction, fraction_text}
use Rattle.rp_rows.specs.Faults.{column_of_fault, fault_word, row_of_fault}
use Rattle.rp_rows.specs.Floors.{floor_text}
use Rattle.rp_rows.specs.Words.{verdict_word, yes_or_no}
use Rattle.rp_rows.specs.declared.fault.Fault.{Fault}
use Rattle.rp_rows.specs.declared.row.Found.{Found}
use Rattle.rp_rows.specs.declared.row.Found.TheVariants.{Verdicts as VerdictsFound, Fault as FaultFound}
use Rattle.rp_rows.specs.declared.row.Row.{Row}
use Rattle.rp_rows.specs.declared.verdicts.Power.{Power}
use Rattle.rp_rows.specs.declared.verdicts.Verdicts.{Verdicts}

-- the header, with the names of the columns that are kept
abbrev pub header_fields : List (List ℕ) → List (List ℕ)
header_fields kept = (codes "household" ∷ codes "observations" ∷ codes "goods" ∷ codes "garp" ∷ codes "efficiency"
    ∷ codes "efficiency_floor" ∷ codes "attained" ∷ codes "homothetic" ∷ codes "quasilinear" ∷ codes "pump"
    ∷ codes "pump_floor" ∷ codes "power" ∷ codes "fault" ∷ codes "record" ∷ codes "column" ∷ []) ++ kept

-- a fraction, and the same with six places, rounded down
abbrev pub ratio_fields : Fraction → List (List ℕ)
ratio_fields f = fraction_text f ∷ floor_text f ∷ []

-- the money pump, where it was asked
abbrev pub pump_fields : Option Fraction → List (List ℕ)
pump_fields None = [] ∷ [] ∷ []
pump_fields (Some ratio) = ratio_fields ratio

-- how many random behaviours fail the axiom, over how many there are, where that was asked
abbrev pub power_text : Option Power → List ℕ
power_text None = []
power_text (Some power) = decimal power.violations ++ 47 ∷ decimal power.draws

-- the verdicts, from the observations to the power
abbrev pub verdict_fields : Verdicts → List (List ℕ)
verdict_fields v = (decimal v.observations ∷ decimal v.goods ∷ verdict_word v.garp ∷ [])
    ++ ratio_fields v.efficiency
    ++ (yes_or_no v.attained ∷ verdict_word v.homothetic ∷ verdict_word v.quasilinear ∷ [])
    ++ pump_fields v.pump ++ (power_text v.power ∷ [])

-- a number, or nothing where there is none
abbrev pub number_or_none : Option ℕ → List ℕ
number_or_none None = []
number_or_none (Some number) = decimal number

-- a fault, with its record and its column
abbrev pub fault_fields : Fault → List (List ℕ)
fault_fields f = fault_word f ∷ number_or_none (row_of_fault f) ∷ number_or_none (column_of_fault f) ∷ []

-- three empty fields
abbrev pub three_empty : List (List ℕ)
three_empty = [] ∷ [] ∷ [] ∷ []

-- verdicts and no fault, or a fault and no verdicts
abbrev pub found_fields : Found → List (List ℕ)
found_fields (VerdictsFound v) = verdict_fields v ++ three_empty
found_fields (FaultFound f) = three_empty ++ three_empty ++ three_empty ++ ([] ∷ [] ∷ []) ++ fault_fields f

-- the fields of a row
abbrev pub row_fields : Row → List (List ℕ)
row_fields row = row.household ∷ (found_fields row.found ++ row.kept)

-- how the text is written: by the rules of `csv`, with a line feed at the end of each record
abbrev pub panel_writer : WriterBuilder
panel_writer = with_flexible default_writer true

-- the line of a row
abbrev pub line_of_row : Row → List ℕ
line_of_row row = row_text panel_writer (row_fields row)

-- the header, and a line for each row
abbrev pub rows_text : List (List ℕ) → List Row → List ℕ
rows_text kept rows = row_text panel_writer (header_fields kept) ++ flat_map line_of_row rows
