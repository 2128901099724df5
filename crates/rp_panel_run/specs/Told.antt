-- What is told on standard error (this program's own texts).
use Rattle.std.specs.Prelude.{ℕ, List, [], ◌∷◌, ◌++◌, codes, Option}
use Rattle.std.specs.Fmt.{decimal}
use Rattle.std.specs.List.{flat_map}
use Rattle.std.specs.Option.{option_map_or}
use Rattle.rp_long.specs.declared.fault.LongFault.{LongFault}
use Rattle.rp_long.specs.declared.fault.LongFault.TheVariants as long_fault
use Rattle.rp_rows.specs.Faults.{column_of_fault, fault_word, row_of_fault}
use Rattle.rp_rows.specs.declared.fault.Fault.{Fault}
use Rattle.rp_rows.specs.declared.fault.Fault.TheVariants.{OfTable}

-- a number after a word, where there is one
abbrev pub place_text : List ℕ → Option ℕ → List ℕ
place_text word number = option_map_or (λ n. word ++ decimal n) number []

-- the word of a fault, and its record and its column
abbrev pub told_fault : Fault → List ℕ
told_fault f =
    fault_word f ++ place_text (codes " record ") (row_of_fault f) ++ place_text (codes " column ") (column_of_fault f)

-- the text of the fault of a file as a whole
abbrev pub long_fault_text : LongFault → List ℕ
long_fault_text (long_fault.Table f) = told_fault (OfTable f)
long_fault_text long_fault.NoIdColumn = codes "NoIdColumn"
long_fault_text (long_fault.NoKeptColumn number) = codes "NoKeptColumn name " ++ decimal number

-- the line with a text about a file
abbrev pub file_line : List ℕ → List ℕ → List ℕ
file_line file text = codes "rp-panel: " ++ file ++ codes ": " ++ text ++ 10 ∷ []

-- the line where the file of that name could not be read
abbrev pub unread_line : List ℕ → List ℕ
unread_line file = file_line file (codes "read failed")

-- the line for a column that is left out of the table, and those for several
abbrev pub left_out_line : List ℕ → List ℕ
left_out_line column = codes "rp-panel: column " ++ column ++ codes " is left out" ++ 10 ∷ []

abbrev pub left_out_lines : List (List ℕ) → List ℕ
left_out_lines columns = flat_map left_out_line columns

-- the line where the words are none that the program takes
abbrev pub usage_line : List ℕ
usage_line =
    codes "usage: rp-panel LONG [--id NAME] [--keep NAME].. [--pump] [--power DRAWS SEED] [--intercepts] [--wide]" ++ 10
    ∷ (codes "       rp-panel LONG [--id NAME] [--keep NAME].. (--demand | --welfare) NEW [--wide]" ++ 10 ∷ [])

-- the line where the table could not be written whole, and where memory ran out
abbrev pub write_line : List ℕ
write_line = codes "rp-panel: write failed" ++ 10 ∷ []

abbrev pub memory_line : List ℕ
memory_line = codes "rp-panel: out of memory" ++ 10 ∷ []
