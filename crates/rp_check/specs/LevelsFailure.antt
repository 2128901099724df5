-- When the levels of a certificate are not those of the table (this program's own order of clauses).
use Rattle.std.specs.Prelude.{◌≡◌, ℕ, List, [], ◌∷◌, length, slice_index}
use Rattle.rp_evidence.specs.declared.failure.Reason.TheVariants.{Levels}
use Rattle.rp_evidence.specs.Clauses.{Finding, FirstUnless, InOrder, Unless}

-- The levels of an observation are the same.
abbrev pub AreLevelsAlike : List ℕ → List ℕ → ℕ → Type 0
AreLevelsAlike levels claimed t = slice_index claimed t ≡ slice_index levels t

-- As many levels as the table has, none where it has none, and each the same.
abbrev pub LevelsFail : List ℕ → List ℕ → Finding
LevelsFail levels claimed = InOrder (
    Unless (length claimed ≡ length levels) Levels 0
    ∷ FirstUnless (length levels) (AreLevelsAlike levels claimed) Levels
    ∷ [])

-- No levels at all.
abbrev pub SomeLevelsFail : List ℕ → Finding
SomeLevelsFail levels = Unless (levels ≡ []) Levels 0
