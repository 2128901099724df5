-- Evidence for the greatest money pump ratio (this program's own; the ratio: Echenique, Lee and Shum 2011).
use Rattle.std.specs.Prelude.{◌≡◌, ◌≢◌, ℕ, ◌+◌, ◌^◌, ◌<◌, ◌≤◌, ℤ, pos, neg_ℤ, ◌+ℤ◌, ◌≤ℤ◌, List, length, slice_index_or}
use Rattle.rp_evidence.specs.Preference.{IsWeak}
use Rattle.rp_evidence.specs.Walk.{IsClosedWalk}
use Rattle.rp_fit.specs.MoneyPump.{HasPumpRatio}
use Rattle.rp_fit.specs.PumpTotals.{IsLeastPumpTotal, excess}
use Rattle.rp_fit.specs.declared.pump.PumpPart.{PumpPart}

-- The value of an observation; past the last it is 0.
abbrev pub value_at : List ℤ → ℕ → ℤ
value_at values s = slice_index_or values s (pos 0)

-- A value is at most 2^121 in absolute value.
abbrev pub FitsPumpValue : ℤ → Type 0
FitsPumpValue x = (neg_ℤ (pos (2 ^ 121)) ≤ℤ x) × (x ≤ℤ pos (2 ^ 121))

-- The value of s bounds the step to t, where this is another observation and the step is weak.
abbrev pub BoundsStep : (ℕ → ℕ → ℕ) → ℕ → ℕ → List ℤ → ℕ → ℕ → Type 0
BoundsStep c num den values s t =
    s ≢ t → IsWeak c s t → value_at values t ≤ℤ (value_at values s +ℤ excess c num den s t)

-- The value of s bounds every step from it.
abbrev pub BoundsFrom : ℕ → (ℕ → ℕ → ℕ) → ℕ → ℕ → List ℤ → ℕ → Type 0
BoundsFrom n c num den values s = (t : ℕ) → t < n → BoundsStep c num den values s t

-- A cycle as evidence: a closed walk of weak steps, as many as there are observations at most.
pub record IsWeakCycle (n : ℕ) (c : ℕ → ℕ → ℕ) (walk : List ℕ) : Type 0 where
  pub few : length walk ≤ n + 1
  pub closed : IsClosedWalk n (IsWeak c) walk

-- Values as evidence: one of each observation, within its width.
pub record AreValues (n : ℕ) (values : List ℤ) : Type 0 where
  pub one_each : length values ≡ n
  pub fit : (s : ℕ) → s < n → FitsPumpValue (value_at values s)

-- What a checker looks at: the width of the numbers, the cycle with its ratio, and the values, which leave no closed
-- walk a greater ratio.
pub record PumpHolds (n : ℕ) (c : ℕ → ℕ → ℕ) (part : PumpPart) : Type 0 where
  pub positive : 1 ≤ part.den
  pub num_fits : part.num ≤ 2 ^ 60
  pub den_fits : part.den ≤ 2 ^ 60
  pub cycle : IsWeakCycle n c part.cycle
  pub ratio : HasPumpRatio c part.num part.den part.cycle
  pub values : AreValues n part.values
  pub bounds : (s : ℕ) → s < n → BoundsFrom n c part.num part.den part.values s

-- The values are the least totals at the ratio, by the observation where the walks end.
pub record HasLeastPumpTotals (n : ℕ) (c : ℕ → ℕ → ℕ) (part : PumpPart) : Type 0 where
  pub one_each : length part.values ≡ n
  pub least : (s : ℕ) → s < n → IsLeastPumpTotal n c part.num part.den s (value_at part.values s)
