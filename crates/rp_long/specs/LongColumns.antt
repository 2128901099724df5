-- Which columns of a long file are used, and for what: that of the ids, those of a table, and those whose texts are kept;
-- and which are left out.
use Rattle.std.specs.Prelude.{ℕ, Bool, false, not, ◌&&◌, ◌||◌, ◌==◌, List, length, map}
use Rattle.std.specs.List.{list_any}
use Rattle.std.specs.Option.{option_map_or}
use Rattle.rp_forms.specs.Texts.{text_at}
use Rattle.rp_forms.specs.Columns.{role_of, takes}
use Rattle.rp_forms.specs.Forms.{table_form}
use Rattle.rp_forms.specs.declared.form.Marks.TheVariants.{Goods}
use Rattle.rp_sheet.specs.ChoiceCounts.{column_named}
use Rattle.rp_long.specs.Places.{places_below}

-- the column of the ids, those of a table in order, and those whose texts are kept, all from 0
pub record Uses : Type 0 where
  pub id : ℕ
  pub table : List ℕ
  pub kept : List ℕ

-- whether a table may have a column with that header
unfoldable pub is_of_table : List ℕ → Bool
is_of_table header = option_map_or (takes table_form) (role_of Goods header) false

-- the columns of a table in a file with these headers, beside that of the ids
abbrev pub table_columns : List (List ℕ) → ℕ → List ℕ
table_columns headers id =
    places_below (length headers) (λ c. not (c == id) && is_of_table (text_at headers c))

-- the uses of the columns with these headers, where the ids have that name and texts under those names are kept
abbrev pub uses_of : List ℕ → List (List ℕ) → List (List ℕ) → Uses
uses_of id kept headers = record {
  id = column_named id headers;
  table = table_columns headers (column_named id headers);
  kept = map (λ name. column_named name headers) kept;
}

-- whether a column with that header is used
abbrev pub is_used : Uses → List ℕ → ℕ → Bool
is_used uses header c = (c == uses.id) || (is_of_table header || list_any (λ k. k == c) uses.kept)

-- the names of the columns with these headers that are used for nothing, in order
abbrev pub left_out_of : Uses → List (List ℕ) → List (List ℕ)
left_out_of uses headers =
    map (text_at headers) (places_below (length headers) (λ c. not (is_used uses (text_at headers c) c)))
