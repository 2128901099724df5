-- For the proofs alone: the rows of bits in which a table's closure is kept. No public clause cites this word.
use Rattle.std.specs.Prelude.{ℕ, Bool, List, [], slice_index_or}
use Rattle.rp_evidence.specs.Bits.{bit_in}

-- Bit t of row s.
abbrev pub has_bit : List (List ℕ) → ℕ → ℕ → Bool
has_bit rows s t = bit_in (slice_index_or rows s []) t
