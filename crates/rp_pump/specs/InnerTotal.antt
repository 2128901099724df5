-- For the proofs alone: what the steps between all observations add.
use Rattle.std.specs.Prelude.{ℕ, ◌^◌, ◌==◌, if◌then◌else◌, ℤ, pos, nat_lt}
use Rattle.rp_fit.specs.PumpTotals.{excess}

-- A step to another observation that is not weak adds 2^121, more than weak steps can take away.
abbrev pub other_added : (ℕ → ℕ → ℕ) → ℕ → ℕ → ℕ → ℕ → ℤ
other_added c num den s t = if nat_lt (c s s) (c s t) then pos (2 ^ 121) else excess c num den s t

-- What a step adds.
abbrev pub added : (ℕ → ℕ → ℕ) → ℕ → ℕ → ℕ → ℕ → ℤ
added c num den s t = if s == t then pos 0 else other_added c num den s t
