-- Which texts are numbers, and the number that each denotes (a format of this project's own).
use Rattle.std.specs.Prelude.{ℕ, ◌-◌, ◌^◌, Bool, not, ◌&&◌, ◌||◌, ◌==◌, nat_le, nat_lt, if◌then◌else◌, List, ◌++◌}
use Rattle.std.specs.Prelude.{length, take, min, Result, Ok, Err}
use Rattle.std.specs.List.{before_first, after_first, suffix_len, list_all}
use Rattle.std.specs.Char.{is_ascii_digit}
use Rattle.std.specs.Str.Parse.{digits_value}
use Rattle.rp_num.specs.declared.decimal.Decimal.{Decimal}
use Rattle.rp_num.specs.declared.decimal.NumFault.{NumFault}
use Rattle.rp_num.specs.declared.decimal.NumFault.TheVariants.{Bad, Decimals}

-- One or more decimal digits, and nothing else.
abbrev pub is_numeral : List ℕ → Bool
is_numeral text = nat_lt 0 (length text) && list_all is_ascii_digit text

-- What stands before the first point of a text, or all of it where there is none.
abbrev pub whole_part : List ℕ → List ℕ
whole_part text = before_first (λ b. b == 46) text

-- What stands after the first point.
abbrev pub after_point : List ℕ → List ℕ
after_point text = after_first (λ b. b == 46) text

-- A text has a point where its whole part is not all of it.
abbrev pub has_point : List ℕ → Bool
has_point text = nat_lt (length (whole_part text)) (length text)

-- A number: a numeral, or two of them with a point between.
abbrev pub is_number : List ℕ → Bool
is_number text = is_numeral (whole_part text) && (not (has_point text) || is_numeral (after_point text))

-- Digits without the zeros at their end.
abbrev pub without_last_zeros : List ℕ → List ℕ
without_last_zeros digits = take (length digits - suffix_len (λ b. b == 48) digits) digits

-- The written places of a number: its digits after the point, where zeros at the end do not count.
abbrev pub written_places : List ℕ → List ℕ
written_places text = without_last_zeros (after_point text)

-- The number with these digits before the point and these places: all of them as units, over the power
-- of ten of the places. From 10^18 on the units are kept as 10^18. More than 6 places are too many.
abbrev pub decimal_from : List ℕ → List ℕ → Result Decimal NumFault
decimal_from whole places =
    if nat_le (length places) 6
    then Ok (record { units = min (digits_value 10 (whole ++ places)) (10 ^ 18); places = length places })
    else Err Decimals

-- The number that a text denotes.
abbrev pub decimal_of : List ℕ → Result Decimal NumFault
decimal_of text =
    if is_number text then decimal_from (whole_part text) (written_places text) else Err Bad
