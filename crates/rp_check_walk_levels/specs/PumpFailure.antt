-- When evidence on the money pump fails (this program's own order of clauses; the ratio: Echenique, Lee and Shum 2011).
use Rattle.std.specs.Prelude.{◌≡◌, ◌≤◌, ◌+◌, ◌^◌, ℕ, ℤ, List, [], ◌∷◌, length}
use Rattle.rp_clauses.specs.WalkFailure.{ClosedWalkFails, WeakStepsFail}
use Rattle.rp_evidence.specs.Clauses.{Finding, FirstUnless, InOrder, Unless}
use Rattle.rp_evidence.specs.Preference.{IsWeak}
use Rattle.rp_evidence.specs.declared.failure.Reason.TheVariants.{Bound, Number, Order, Shape, Wide}
use Rattle.rp_fit.specs.MoneyPump.{HasPumpRatio}
use Rattle.rp_fit.specs.PumpEvidence.{BoundsFrom, FitsPumpValue, value_at}
use Rattle.rp_fit.specs.declared.pump.PumpPart.{PumpPart}

-- A closed walk of weak steps, no more of them than observations, that has the ratio num/den.
abbrev pub CycleFails : ℕ → (ℕ → ℕ → ℕ) → ℕ → ℕ → List ℕ → Finding
CycleFails n c num den walk = InOrder (
    Unless (length walk ≤ n + 1) Shape 1
    ∷ ClosedWalkFails n walk
    ∷ WeakStepsFail (IsWeak c) walk
    ∷ Unless (HasPumpRatio c num den walk) Bound 0
    ∷ [])

-- Values: one for each observation, each within its width, and each bounds the weak steps from it.
abbrev pub PumpValuesFail : ℕ → (ℕ → ℕ → ℕ) → ℕ → ℕ → List ℤ → Finding
PumpValuesFail n c num den values = InOrder (
    Unless (length values ≡ n) Shape 2
    ∷ FirstUnless (length values) (λ s. FitsPumpValue (value_at values s)) Number
    ∷ FirstUnless n (BoundsFrom n c num den values) Order
    ∷ [])

-- A denominator, the width of the ratio, the walk, and the values.
abbrev pub PumpFails : ℕ → (ℕ → ℕ → ℕ) → PumpPart → Finding
PumpFails n c part = InOrder (
    Unless (1 ≤ part.den) Number 0
    ∷ Unless ((part.num ≤ 2 ^ 60) × (part.den ≤ 2 ^ 60)) Wide 0
    ∷ CycleFails n c part.num part.den part.cycle
    ∷ PumpValuesFail n c part.num part.den part.values
    ∷ [])
