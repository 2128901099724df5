-- Menus, and what is chosen from them, as texts of letters from a to f (a format of this project's own).
use Rattle.std.specs.Prelude.{ℕ, ◌+◌, ◌-◌, ◌^◌, ◌==◌, ◌&&◌, ◌||◌, Bool, not, nat_le, nat_lt}
use Rattle.std.specs.Prelude.{List, length, slice_index}
use Rattle.std.specs.Prelude.{if◌then◌else◌}
use Rattle.std.specs.List.{list_any}
use Rattle.rp_num.specs.Below.{any_below}
use Rattle.rp_table.specs.Sums.{sum_below}
use Rattle.rp_limits.specs.declared.menu.TheConstants.{LETTERS}

-- a letter from a to f
abbrev pub is_letter : ℕ → Bool
is_letter byte = nat_le 97 byte && nat_lt byte (97 + LETTERS)

-- whether no such letter stands at place k, or one that does not come after that before it
abbrev pub is_wrong_at : List ℕ → ℕ → Bool
is_wrong_at text k =
    not (is_letter (slice_index text k)) || (nat_lt 0 k && nat_le (slice_index text k) (slice_index text (k - 1)))

-- a menu: one letter or more, in strictly increasing order
abbrev pub is_menu : List ℕ → Bool
is_menu text = nat_lt 0 (length text) && not (any_below (length text) (is_wrong_at text))

-- whether a byte stands in a text
abbrev pub has_byte : List ℕ → ℕ → Bool
has_byte text byte = list_any (λ other. other == byte) text

-- the number of a menu: the sum of 1, 2, 4 and so on for its letters a, b, c and so on
abbrev pub number_of_menu : List ℕ → ℕ
number_of_menu text = sum_below LETTERS (λ x. if has_byte text (97 + x) then 2 ^ x else 0)

-- what was chosen: one letter of the menu
abbrev pub is_choice : List ℕ → List ℕ → Bool
is_choice menu text = (length text == 1) && has_byte menu (slice_index text 0)

-- the letter that was chosen, from 0
abbrev pub letter_in : List ℕ → ℕ
letter_in text = slice_index text 0 - 97
