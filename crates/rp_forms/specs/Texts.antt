-- The texts of a file's fields.
use Rattle.std.specs.Prelude.{ℕ, ◌+◌, ◌-◌, min, Bool, ◌||◌, ◌==◌, List, [], length, take, drop, position, Option}
use Rattle.std.specs.Prelude.{slice_index_or}
use Rattle.std.specs.List.{prefix_len, suffix_len}
use Rattle.std.specs.Str.{bytes_eq}

-- a space or a tab
abbrev pub is_blank : ℕ → Bool
is_blank byte = (byte == 32) || (byte == 9)

-- a text without the blanks at its beginning
unfoldable pub after_blanks : List ℕ → List ℕ
after_blanks text = drop (prefix_len is_blank text) text

-- a text without the blanks at its end
unfoldable pub before_blanks : List ℕ → List ℕ
before_blanks text = take (length text - suffix_len is_blank text) text

-- a text without the blanks round it
abbrev pub trimmed : List ℕ → List ℕ
trimmed text = before_blanks (after_blanks text)

-- the k-th of some texts, from 0
abbrev pub text_at : List (List ℕ) → ℕ → List ℕ
text_at texts k = slice_index_or texts k []

-- where a text stands first among others
abbrev pub place_of : List (List ℕ) → List ℕ → Option ℕ
place_of texts text = position (bytes_eq text) texts

-- the number of a record, a column or a budget as it is told, from 1. The greatest that a fault can hold
-- stands for every greater one
abbrev pub number_of : ℕ → ℕ
number_of k = min (k + 1) 4294967295
