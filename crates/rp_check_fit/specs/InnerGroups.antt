-- For the proofs alone: members by their places, each beside those before it. No public clause cites these words.
use Rattle.std.specs.Prelude.{◌<◌, ℕ, List, slice_index}
use Rattle.rp_fit.specs.Groups.{Contradict}

-- The member at place j contradicts each one before it.
abbrev pub ContradictsEarlier : (ℕ → ℕ → ℕ) → List ℕ → ℕ → Type 0
ContradictsEarlier c members j = (i : ℕ) → i < j → Contradict c (slice_index members i) (slice_index members j)
