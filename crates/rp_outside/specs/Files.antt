-- Files in memory, as pairs of a name and the bytes under it (this project's own form).
use Rattle.std.specs.Prelude.{ℕ, ◌≡◌, ◌-◌, List, Option, drop, length, min, take}
use Rattle.std.specs.Map.{lookup}
use Rattle.std.specs.Str.{bytes_eq}

-- the bytes under a name: those of the first file that has it
abbrev pub bytes_under : List (List ℕ × List ℕ) → List ℕ → Option (List ℕ)
bytes_under files name = lookup (bytes_eq name) files

-- n bytes from the place `at` on stand at the front of `into`: as many as there are and as have room
abbrev pub ReadsAll : List ℕ → ℕ → List ℕ → ℕ → Type 0
ReadsAll bs at into n = (n ≡ min (length into) (length bs - at)) × (take n into ≡ take n (drop at bs))
