-- Marks on observations, one truth value for each. No definition of evidence rests on these words.
use Rattle.std.specs.Prelude.{◌<◌, ◌↔◌, ℕ, Bool, false, IsTrue, List, slice_index_or}

-- Observation t is marked.
abbrev pub IsMarked : List Bool → ℕ → Type 0
IsMarked marks t = IsTrue (slice_index_or marks t false)

-- Just those of the first n observations are marked of which P holds.
abbrev pub AreMarked : ℕ → (ℕ → Type 0) → List Bool → Type 0
AreMarked n P marks = (t : ℕ) → t < n → IsMarked marks t ↔ P t
