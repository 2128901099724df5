-- The ids of a file's records, the records of each, and the records without one.
use Rattle.std.specs.Prelude.{ℕ, zero, suc, not, ◌&&◌, ◌==◌, nat_lt, if◌then◌else◌, List, [], ◌∷◌, ◌++◌, length, map}
use Rattle.std.specs.Prelude.{Option, None, Some, is_none, slice_index_or, slice_set}
use Rattle.std.specs.List.{list_any, position_or_len}
use Rattle.std.specs.Str.{bytes_eq}
use Rattle.rp_limits.specs.declared.long.TheConstants.{HOUSEHOLD_BYTES}
use Rattle.rp_forms.specs.Texts.{number_of}
use Rattle.rp_long.specs.Places.{places_below}
use Rattle.rp_long.specs.declared.fault.IdFault.{IdFault}
use Rattle.rp_long.specs.declared.fault.IdFault.TheVariants.{NoId, LongId}
use Rattle.rp_long.specs.declared.fault.Unnamed.{Unnamed}

-- why a text without the blanks round it is no id
unfoldable pub id_fault : List ℕ → Option IdFault
id_fault id =
    if length id == 0 then Some NoId
    else if nat_lt HOUSEHOLD_BYTES (length id) then Some LongId
    else None

-- ids, each once, after that of one more record, in the order in which they come first
abbrev pub ids_with : List (List ℕ) → List ℕ → List (List ℕ)
ids_with ids id = if is_none (id_fault id) && not (list_any (bytes_eq id) ids) then ids ++ id ∷ [] else ids

-- the ids of the first n records, by the texts that stand for them
abbrev pub ids_below : (ℕ → List ℕ) → ℕ → List (List ℕ)
ids_below text zero = []
ids_below text (suc n) = ids_with (ids_below text n) (text n)

-- the records, of the first n, with that id, in order
abbrev pub records_with : (ℕ → List ℕ) → ℕ → List ℕ → List ℕ
records_with text n id = places_below n (λ t. bytes_eq (text t) id)

-- a record that is refused for its id
abbrev pub refused_for : Option IdFault → ℕ → List Unnamed
refused_for None t = []
refused_for (Some why) t = record { row = number_of t; fault = why } ∷ []

-- the records, of the first n, that are refused for their ids, in order
abbrev pub unnamed_below : (ℕ → List ℕ) → ℕ → List Unnamed
unnamed_below text zero = []
unnamed_below text (suc n) = unnamed_below text n ++ refused_for (id_fault (text n)) n

-- ids, the records of each, and the records that are refused for theirs
pub record Grouped : Type 0 where
  pub ids : List (List ℕ)
  pub members : List (List ℕ)
  pub unnamed : List Unnamed

-- those of the first n records
abbrev pub grouped_below : (ℕ → List ℕ) → ℕ → Grouped
grouped_below text n = record {
  ids = ids_below text n;
  members = map (records_with text n) (ids_below text n);
  unnamed = unnamed_below text n;
}

-- one more member of a list of lists, at a place that it has
abbrev pub joined_at : List (List ℕ) → ℕ → ℕ → List (List ℕ)
joined_at members h t = slice_set members h (slice_index_or members h [] ++ t ∷ [])

-- the same with one more record that has this id, which may be new
unfoldable pub with_member : Grouped → List ℕ → ℕ → Grouped
with_member grouped id t =
    if list_any (bytes_eq id) grouped.ids
    then record {
      ids = grouped.ids;
      members = joined_at grouped.members (position_or_len (bytes_eq id) grouped.ids) t;
      unnamed = grouped.unnamed;
    }
    else record {
      ids = grouped.ids ++ id ∷ [];
      members = grouped.members ++ (t ∷ []) ∷ [];
      unnamed = grouped.unnamed;
    }

-- the same with one more record that is refused
abbrev pub refusing : Grouped → ℕ → IdFault → Grouped
refusing grouped t why = record {
  ids = grouped.ids;
  members = grouped.members;
  unnamed = grouped.unnamed ++ record { row = number_of t; fault = why } ∷ [];
}
