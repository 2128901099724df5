-- For the proofs alone: rows of bits in words of 64, one for each observation. A closure is seen as what its bits say
-- (Closure).
use Rattle.std.specs.Prelude.{◌≡◌, ℕ, ◌*◌, ◌/◌, ◌%◌, ◌<◌, ◌≤◌, ◌↔◌, ◌==◌, Bool, IsTrue, length}
use Rattle.std.specs.Int.{bit_at}
use Rattle.rp_grid.specs.Rows.{Rows, row_of}
use Rattle.rp_evidence.specs.Bits.{bit_in}

-- Bit t of row s.
abbrev pub has_bit : Rows ℕ → ℕ → ℕ → Bool
has_bit bits s t = bit_in (row_of bits s) t

-- Bit t of a row, by the word that it is in.
abbrev pub bit_of : ℕ → ℕ → Bool
bit_of word t = bit_at word (t % 64) == 1

-- The bits of word `place` of a row are set for those observations of n to which there is a step.
abbrev pub IsWordOf : ℕ → ℕ → (ℕ → Type 0) → ℕ → Type 0
IsWordOf place n step word = (t : ℕ) → t / 64 ≡ place → IsTrue (bit_of word t) ↔ ((t < n) × step t)

-- There is a row of bits for each of n observations, and no bit is set but those of observations.
pub record HoldsBits (n : ℕ) (bits : Rows ℕ) : Type 0 where
  pub rows : length bits.rows ≡ n
  pub enough : n ≤ bits.cols * 64
  pub small : bits.cols ≤ 1024
  pub none_past : (s t : ℕ) → s < n → IsTrue (has_bit bits s t) → t < n
