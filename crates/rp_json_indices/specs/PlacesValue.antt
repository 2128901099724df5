-- The JSON value of the observations at whose bundles the levels are (this program's own format).
use Rattle.std.specs.Prelude.{ℕ, ◌+◌, ◌==◌, List, [], ◌∷◌, if◌then◌else◌}
use Rattle.serde_json.specs.Data.{Data}
use Rattle.rp_json_entries.specs.Values.{counts_value}

-- the number of observation t at observation s: 0 where they are the same, for the level 1, and else counted from 1
abbrev pub place_number : ℕ → ℕ → ℕ
place_number s t = if t == s then 0 else t + 1

-- the numbers of these at observation s, the next one, and so on
abbrev pub place_numbers : ℕ → List ℕ → List ℕ
place_numbers s [] = []
place_numbers s (t ∷ at) = place_number s t ∷ place_numbers (s + 1) at

abbrev pub places_value : List ℕ → Data
places_value at = counts_value (place_numbers 0 at)
