-- Rows of bits in words of 64: bit t of a row is bit t % 64 of its word t / 64. How a closure is stored; no definition
-- of evidence rests on these words.
use Rattle.std.specs.Prelude.{ℕ, ◌/◌, ◌%◌, ◌==◌, Bool, List, slice_index}
use Rattle.std.specs.Int.{bit_at}

-- Bit t of the words.
abbrev pub bit_in : List ℕ → ℕ → Bool
bit_in words t = bit_at (slice_index words (t / 64)) (t % 64) == 1
