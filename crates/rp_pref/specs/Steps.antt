-- The steps of which walks are made: all weak ones of a preference, or all strict ones (Varian 1982; levels after
-- Afriat, those of single observations after Varian 1990).
use Rattle.std.specs.Prelude.{ℕ}
use Rattle.rp_evidence.specs.Preference.{IsStrictAt, IsWeakAt, StrictByLevels, WeakByLevels}
use Rattle.rp_evidence.specs.declared.level.Level.{Level}
use Rattle.rp_table.specs.Cost.{CostTable, cost_at}
use Rattle.rp_pref.specs.declared.steps.Steps.{Steps}
use Rattle.rp_pref.specs.declared.steps.Steps.TheVariants.{Weak, Strict}

-- The steps of the chosen kind, of these weak and these strict ones.
abbrev pub StepOf : Steps → (ℕ → ℕ → Type 0) → (ℕ → ℕ → Type 0) → ℕ → ℕ → Type 0
StepOf Weak weak strict s t = weak s t
StepOf Strict weak strict s t = strict s t

-- There is a step of the chosen kind at the level num/den.
abbrev pub IsStep : Steps → (ℕ → ℕ → ℕ) → ℕ → ℕ → ℕ → ℕ → Type 0
IsStep steps c num den = StepOf steps (IsWeakAt c num den) (IsStrictAt c num den)

-- The weak preference that a table of costs reveals at a level.
abbrev pub WeakAt : CostTable → Level → ℕ → ℕ → Type 0
WeakAt costs level = IsWeakAt (cost_at costs) level.num level.den

-- And the strict one.
abbrev pub StrictAt : CostTable → Level → ℕ → ℕ → Type 0
StrictAt costs level = IsStrictAt (cost_at costs) level.num level.den

-- The weak preference that a table of costs reveals where each observation is held to its own level, or, where there
-- are no levels, to all that it spent.
abbrev pub OwnWeak : CostTable → ℕ → ℕ → Type 0
OwnWeak costs = WeakByLevels costs.levels (cost_at costs)

-- And the strict one.
abbrev pub OwnStrict : CostTable → ℕ → ℕ → Type 0
OwnStrict costs = StrictByLevels costs.levels (cost_at costs)
