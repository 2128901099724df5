-- The number that decimal digits stand for, where it is at most so many.
use Rattle.std.specs.Prelude.{ℕ, ◌+◌, ◌-◌, ◌*◌, ◌==◌, not, nat_lt, if◌then◌else◌, List, [], ◌∷◌, length, Option, None}
use Rattle.std.specs.Prelude.{Some, option_and_then}
use Rattle.std.specs.Char.{is_ascii_digit}

-- a number with one digit more
abbrev pub number_with : ℕ → ℕ → ℕ → Option ℕ
number_with most number byte =
    if not (is_ascii_digit byte) then None
    else if nat_lt most (10 * number + (byte - 48)) then None
    else Some (10 * number + (byte - 48))

-- a number with these digits more
abbrev pub number_after : ℕ → ℕ → List ℕ → Option ℕ
number_after most number [] = Some number
number_after most number (byte ∷ rest) =
    option_and_then (λ longer. number_after most longer rest) (number_with most number byte)

-- the number of a text of digits
abbrev pub number_in : ℕ → List ℕ → Option ℕ
number_in most text = if length text == 0 then None else number_after most 0 text
