-- For the proofs alone: walks by their places. No public clause cites these words.
use Rattle.std.specs.Prelude.{◌<◌, ◌≤◌, ◌+◌, ℕ, List, length, slice_index}

-- Entries that are observations, one or more, and no more steps than observations.
pub record IsShort (n : ℕ) (walk : List ℕ) : Type 0 where
  pub some : 0 < length walk
  pub few : length walk ≤ n + 1
  pub observed : (k : ℕ) → k < length walk → slice_index walk k < n
