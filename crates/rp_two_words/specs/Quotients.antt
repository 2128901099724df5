-- Exact quotients of one word (arithmetic).
use Rattle.std.specs.Prelude.{ℕ, ◌≡◌, ◌≢◌, ◌*◌, ◌^◌, ◌<◌, Option, Some, None}

-- The quotient is that whole number which gives n when it is multiplied by `by`; none where no number of one word does.
abbrev pub IsExactQuotient : ℕ → ℕ → Option ℕ → Type 0
IsExactQuotient n by (Some q) = q * by ≡ n
IsExactQuotient n by None = (q : ℕ) → q < 2 ^ 128 → q * by ≢ n
