-- Which words of a frame are those of `fit` or `checkfit`, or of `random` with a limit of steps (this program's own).
use Rattle.std.specs.Prelude.{ℕ, Bool, false, ◌||◌, ◌&&◌, List, [], ◌∷◌, codes}
use Rattle.std.specs.List.{starts_with}
use Rattle.std.specs.Prelude.{nat_eq}

-- one of the words behind the first is `--steps`
abbrev pub has_steps : List ℕ → Bool
has_steps [] = false
has_steps (byte ∷ bytes) = starts_with nat_eq (byte ∷ bytes) (codes "\0--steps\0") || has_steps bytes

-- the first of the words in these bytes, each ended by a zero byte, is `fit` or `checkfit`; or it is `random`, and one of
-- the others is `--steps`
abbrev pub asks_fit : List ℕ → Bool
asks_fit words =
    starts_with nat_eq words (codes "fit\0")
    || (starts_with nat_eq words (codes "checkfit\0")
    || (starts_with nat_eq words (codes "random\0") && has_steps words))
