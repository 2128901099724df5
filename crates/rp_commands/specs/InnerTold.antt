-- The text of what is told of a fault, as the code says it: its name, and then its place.
use Rattle.std.specs.Prelude.{ℕ, List, [], ◌++◌, codes}
use Rattle.std.specs.Fmt.{decimal}
use Rattle.rp_commands.specs.FaultTexts.{budget_text, column_text, record_text}
use Rattle.rp_commands.specs.declared.told.Place.{Place}
use Rattle.rp_commands.specs.declared.told.Place.TheVariants.{File, Record, Column, Cell, Budget, Item}
use Rattle.rp_commands.specs.declared.told.Told.{Told}

abbrev pub place_text : Place → List ℕ
place_text File = []
place_text (Record row) = record_text row
place_text (Column column) = column_text column
place_text (Cell row column) = record_text row ++ column_text column
place_text (Budget budget) = budget_text budget
place_text (Item item) = codes " item " ++ decimal item

abbrev pub told_text : Told → List ℕ
told_text told = told.name.now ++ place_text told.place
