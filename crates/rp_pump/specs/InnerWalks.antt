-- For the proofs alone: the entries of a walk. No public clause cites this word.
use Rattle.std.specs.Prelude.{◌<◌, ℕ, List, length, slice_index}

-- Each entry is an observation.
abbrev pub AreObserved : ℕ → List ℕ → Type 0
AreObserved n walk = (k : ℕ) → k < length walk → slice_index walk k < n
