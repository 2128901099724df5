-- A count of faults or of calls, as this project keeps one: a number of 64 bits that never falls and
-- stands still at its last value.
use Rattle.std.specs.Prelude.{ℕ, ◌≡◌, ◌+◌, ◌-◌, ◌^◌, ◌<◌, ◌≤◌, ◌⊎◌, List, min}

-- the last value of a count
abbrev pub last_count : ℕ
last_count = 2 ^ 64 - 1

-- the count after one more
abbrev pub next_count : ℕ → ℕ
next_count n = min (n + 1) last_count

-- a count has risen; one that stands at its last value counts as risen, since no more can be seen of it
abbrev pub HasRisen : ℕ → ℕ → Type 0
HasRisen before after = (before < after) ⊎ (last_count ≤ after)

-- of no name has the count fallen
abbrev pub NoneFalls : (List ℕ → ℕ) → (List ℕ → ℕ) → Type 0
NoneFalls before after = (name : List ℕ) → before name ≤ after name

-- of every name it is what it was, as the count of a name or its bytes
abbrev pub EachStays : {A : Type 0} → (List ℕ → A) → (List ℕ → A) → Type 0
EachStays before after = (name : List ℕ) → after name ≡ before name
