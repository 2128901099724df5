-- The reads that a desk was asked for, each by the name of a file and the place in it, where a desk tells them (this
-- project's own).
use Rattle.std.specs.Prelude.{◌≡◌, ◌≤◌, ◌⊎◌, ⊤, ℕ, suc, List, [], ◌∷◌, ◌++◌, Option, Some, map}
use Rattle.std.specs.Option.{ForSome}

-- reads, the first first
abbrev pub Reads : Type 0
Reads = List (List ℕ × ℕ)

-- the reads of a file at these places
abbrev pub reads_of : List ℕ → List ℕ → Reads
reads_of file places = map (λ at. (file, at)) places

-- known reads grow by this one
abbrev pub ListsRead : Option Reads → Option Reads → List ℕ → ℕ → Type 0
ListsRead old new file at = ForSome old (λ reads. new ≡ Some (reads ++ (file, at) ∷ []))

-- known reads grow by this one or stay
abbrev pub MayListRead : Option Reads → Option Reads → List ℕ → ℕ → Type 0
MayListRead old new file at =
    ForSome old (λ reads. (new ≡ Some (reads ++ (file, at) ∷ [])) ⊎ (new ≡ Some reads))

-- known reads stay
abbrev pub KeepsReads : Option Reads → Option Reads → Type 0
KeepsReads old new = ForSome old (λ reads. new ≡ Some reads)

-- places that rise, from this one on, so that none comes twice
abbrev pub RisesFrom : ℕ → List ℕ → Type 0
RisesFrom low [] = ⊤
RisesFrom low (place ∷ places) = (low ≤ place) × RisesFrom (suc place) places

-- the reads of a file that is read once: from its beginning on, each at a place past the one before
abbrev pub IsReadOnce : List ℕ → Reads → Type 0
IsReadOnce file reads = (places : List ℕ) × (reads ≡ reads_of file (0 ∷ places)) × RisesFrom 1 places

-- known reads grow by those of a file that is read once
abbrev pub AsksOnce : Option Reads → Option Reads → List ℕ → Type 0
AsksOnce old new file = ForSome old (λ reads. (own : Reads) × (new ≡ Some (reads ++ own)) × IsReadOnce file own)

-- the same, or they stay
abbrev pub AsksAtMostOnce : Option Reads → Option Reads → List ℕ → Type 0
AsksAtMostOnce old new file =
    ForSome old (λ reads. (new ≡ Some reads) ⊎ ((own : Reads) × (new ≡ Some (reads ++ own)) × IsReadOnce file own))
