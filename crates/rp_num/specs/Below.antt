-- What holds, or comes first, among the numbers below a bound.
use Rattle.std.specs.Prelude.{ℕ, zero, suc, Bool, false, ◌||◌, List, [], ◌∷◌, ◌++◌, Option, None, max}
use Rattle.std.specs.Option.{option_or}

-- the first of f 0, .., f (n - 1) that is there
abbrev pub first_of : {A : Type 0} → ℕ → (ℕ → Option A) → Option A
first_of zero f = None
first_of (suc n) f = option_or (first_of n f) (f n)

-- the first of some that is there
abbrev pub first_there : {A : Type 0} → List (Option A) → Option A
first_there [] = None
first_there (x ∷ xs) = option_or x (first_there xs)

-- whether one of f 0, .., f (n - 1) holds
abbrev pub any_below : ℕ → (ℕ → Bool) → Bool
any_below zero f = false
any_below (suc n) f = any_below n f || f n

-- the greatest of f 0, .., f (n - 1), or 0
abbrev pub greatest_below : ℕ → (ℕ → ℕ) → ℕ
greatest_below zero f = 0
greatest_below (suc n) f = max (greatest_below n f) (f n)

-- the list f 0, .., f (n - 1)
abbrev pub listed : {A : Type 0} → ℕ → (ℕ → A) → List A
listed zero f = []
listed (suc n) f = listed n f ++ f n ∷ []

-- the rows f 0 0, .., f 0 (width - 1), up to f (n - 1), one after the other
abbrev pub rows_below : ℕ → ℕ → (ℕ → ℕ → ℕ) → List ℕ
rows_below zero width f = []
rows_below (suc n) width f = rows_below n width f ++ listed width (f n)
