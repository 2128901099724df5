-- What steps lead to from marked observations. No definition of evidence rests on this word.
use Rattle.std.specs.Prelude.{◌<◌, ℕ, Bool, List}
use Rattle.rp_evidence.specs.Walk.{LeadsTo}
use Rattle.rp_evidence.specs.Marks.{IsMarked}

-- Steps, or none, lead from a marked observation to t.
abbrev pub IsReachedFromMarked : ℕ → (ℕ → ℕ → Type 0) → List Bool → ℕ → Type 0
IsReachedFromMarked n step marks t = (s : ℕ) × (s < n) × IsMarked marks s × (walk : List ℕ) × LeadsTo n step s t walk
