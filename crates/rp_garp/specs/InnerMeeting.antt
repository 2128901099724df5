-- For the proofs alone: violations as pairs of observations. No public clause cites these words.
use Rattle.std.specs.Prelude.{ℕ, ◌<◌}
use Rattle.rp_pref.specs.Violation.{Violate}

-- Some observation and t violate the axiom.
abbrev pub SomeViolateAt : ℕ → (ℕ → ℕ → Type 0) → (ℕ → ℕ → Type 0) → ℕ → Type 0
SomeViolateAt n weak strict t = (s : ℕ) × (s < n) × Violate n weak strict s t

-- Some two observations violate the axiom.
abbrev pub SomeViolate : ℕ → (ℕ → ℕ → Type 0) → (ℕ → ℕ → Type 0) → Type 0
SomeViolate n weak strict = (t : ℕ) × (t < n) × SomeViolateAt n weak strict t
