-- Which files of some names are given (this project's own form).
use Rattle.std.specs.Prelude.{◌≡◌, ◌≢◌, ◌<◌, ℕ, List, [], None, length, slice_index_or}
use Rattle.rp_outside.specs.Files.{bytes_under}

-- a file is given for each of these names
abbrev pub AreGiven : List (List ℕ × List ℕ) → List (List ℕ) → Type 0
AreGiven files names = (k : ℕ) → k < length names → bytes_under files (slice_index_or names k []) ≢ None

-- the k-th of these names, from 0, is the first of which no file is given
pub record IsFirstMissing (files : List (List ℕ × List ℕ)) (names : List (List ℕ)) (k : ℕ) : Type 0 where
  pub within : k < length names
  pub missing : bytes_under files (slice_index_or names k []) ≡ None
  pub before : (j : ℕ) → j < k → bytes_under files (slice_index_or names j []) ≢ None
