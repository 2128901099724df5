-- For the proofs alone: a division of two words by one, digit for digit. No public clause cites this word.
use Rattle.std.specs.Prelude.{ℕ, ◌+◌, ◌*◌, ◌^◌}
use Rattle.rp_two_words.specs.declared.long_division.Division.{Division}

-- What the quotient, the rest and the digits that are left stand for together, times a power of two.
abbrev pub taken_together : ℕ → Division → ℕ
taken_together by d = (d.quotient * by + d.rest) * 2 ^ 128 + d.left
