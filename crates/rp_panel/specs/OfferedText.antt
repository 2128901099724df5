-- What is told of the budgets that were offered, where it is asked: texts after those that are kept (this program's own).
use Rattle.std.specs.Prelude.{ℕ, Bool, true, false, ◌==◌, if◌then◌else◌, List, [], ◌∷◌, ◌++◌, length, codes, Option, None, Some}
use Rattle.std.specs.Prelude.{Result, Ok, Err, slice_index_or}
use Rattle.std.specs.Fmt.{decimal}
use Rattle.rp_long.specs.Panels.{Household, nobody}
use Rattle.rp_num.specs.Below.{greatest_below}
use Rattle.rp_offered.specs.Offered.{offered_of}
use Rattle.rp_offered.specs.declared.offered.Offered.{Offered}
use Rattle.rp_offered.specs.declared.offered.Places.{Places}
use Rattle.rp_rows.specs.Floors.{places_text}
use Rattle.rp_rows.specs.RowText.{three_empty}
use Rattle.rp_sheet.specs.declared.fault.TableFault.{TableFault}
use Rattle.rp_table.specs.Tables.{Observations, goods_of}

-- the decimal places of a household's prices and of its quantities, where its records denote a table
abbrev pub places_in : Result Observations TableFault → Places
places_in (Ok table) = record { prices = table.price_places; quantities = table.quantity_places }
places_in (Err f) = record { prices = 0; quantities = 0 }

-- the most of the first n households
abbrev pub places_below : List Household → ℕ → Places
places_below households n = record {
  prices = greatest_below n (λ h. (places_in (slice_index_or households h nobody).table).prices);
  quantities = greatest_below n (λ h. (places_in (slice_index_or households h nobody).table).quantities);
}

-- the most of all, where it is asked what was offered
abbrev pub places_asked : Bool → List Household → Option Places
places_asked false households = None
places_asked true households = Some (places_below households (length households))

-- the least share with six places, rounded down, and how many choices cost less and more by more than rounding explains
abbrev pub told_texts : Offered → List (List ℕ)
told_texts o = places_text o.least ∷ decimal o.below ∷ decimal o.over ∷ []

-- of a household whose records denote a table of two goods; of any other nothing is told
abbrev pub offered_texts : Places → Result Observations TableFault → List (List ℕ)
offered_texts places (Ok table) = if goods_of table == 2 then told_texts (offered_of places table) else three_empty
offered_texts places (Err f) = three_empty

-- texts, and what is told after them where it is asked
abbrev pub with_offered : List (List ℕ) → Option Places → Result Observations TableFault → List (List ℕ)
with_offered texts None denoted = texts
with_offered texts (Some places) denoted = texts ++ offered_texts places denoted

-- the texts that stand in the row of a household after what is found of it
abbrev pub texts_after : Option Places → Household → List (List ℕ)
texts_after offered household = with_offered household.kept offered household.table

-- the names of their columns
abbrev pub offered_columns : List (List ℕ)
offered_columns = codes "offered_least" ∷ codes "below_line" ∷ codes "over_line" ∷ []

abbrev pub columns_after : Bool → List (List ℕ) → List (List ℕ)
columns_after false kept = kept
columns_after true kept = kept ++ offered_columns
