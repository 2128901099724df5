-- Words that only proofs need: lists of letters by their number.
use Rattle.std.specs.Prelude.{◌-◌, ◌/◌, ◌%◌, ◌==◌, ◌++◌, ℕ, zero, suc, List, [], ◌∷◌, not}
use Rattle.std.specs.List.{list_any}
use Rattle.rp_orders.specs.OrderKinds.{first_with}

-- the digits of a number, the greatest place first
abbrev pub digits : ℕ → ℕ → ℕ → List ℕ
digits base zero n = []
digits base (suc places) n = digits base places (n / base) ++ n % base ∷ []

-- the first letter that is not in a list, or as many as there are letters
abbrev pub first_missing : ℕ → List ℕ → ℕ
first_missing letters list = first_with letters (λ x. not (list_any (λ y. y == x) list))

-- the list of a number: its digits, and the first letter that is not among them
abbrev pub listed_order : ℕ → ℕ → List ℕ
listed_order letters n =
    let front = digits letters (letters - 1) n in front ++ first_missing letters front ∷ []
