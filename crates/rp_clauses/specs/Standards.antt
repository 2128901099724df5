-- What observations are held to: one level, or levels of their own (after Afriat 1973 and Varian 1990).
use Rattle.std.specs.Prelude.{◌<◌, ◌^◌, ⊤, ℕ, List}
use Rattle.rp_clauses.specs.declared.standard.Standard.{Standard}
use Rattle.rp_clauses.specs.declared.standard.Standard.TheVariants.{At, Own}
use Rattle.rp_evidence.specs.Preference.{IsStrictAt, IsWeakAt, StrictByLevels, WeakByLevels}

-- s is weakly preferred to t.
abbrev pub WeakUnder : Standard → List ℕ → (ℕ → ℕ → ℕ) → ℕ → ℕ → Type 0
WeakUnder (At level) levels c = IsWeakAt c level.num level.den
WeakUnder Own levels c = WeakByLevels levels c

-- s is strictly preferred to t.
abbrev pub StrictUnder : Standard → List ℕ → (ℕ → ℕ → ℕ) → ℕ → ℕ → Type 0
StrictUnder (At level) levels c = IsStrictAt c level.num level.den
StrictUnder Own levels c = StrictByLevels levels c

-- The parts of a level are small enough for products with costs.
abbrev pub IsNarrow : Standard → Type 0
IsNarrow (At level) = (level.num < 2 ^ 51) × (level.den < 2 ^ 51)
IsNarrow Own = ⊤
