-- Walks that go through no observation twice, by the places of their entries (this program's own).
use Rattle.std.specs.Prelude.{◌≢◌, ◌<◌, ◌-◌, ℕ, List, length, slice_index}

-- The entry at place j is none of those before it.
abbrev pub IsUnlikeEarlier : List ℕ → ℕ → Type 0
IsUnlikeEarlier walk j = (i : ℕ) → i < j → slice_index walk i ≢ slice_index walk j

-- No two entries but the last are the same.
abbrev pub ArePlacesDistinct : List ℕ → Type 0
ArePlacesDistinct walk = (i j : ℕ) → i < j → j < length walk - 1 → slice_index walk i ≢ slice_index walk j
