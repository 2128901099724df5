-- When evidence on the homothetic level fails (this program's own order of clauses; the level: Heufer 2013; Heufer and
-- Hjertstrand 2019).
use Rattle.std.specs.Prelude.{◌≡◌, ◌≤◌, ◌<◌, ◌+◌, ◌*◌, ◌^◌, ℕ, List, [], ◌∷◌, length, slice_index}
use Rattle.rp_clauses.specs.WalkFailure.{ClosedWalkFails}
use Rattle.rp_evidence.specs.Clauses.{Finding, FirstUnless, InOrder, Unless}
use Rattle.rp_evidence.specs.Homothetic.{next_product, spent_product}
use Rattle.rp_evidence.specs.declared.failure.Reason.TheVariants.{Bound, Number, Order, Shape}
use Rattle.rp_fit.specs.HomotheticLevel.{step_count}
use Rattle.rp_fit.specs.declared.homothetic_level.HomotheticLevelPart.{HomotheticLevelPart}

-- The product of the c(s,t)/c(s,s) over the k steps of a walk is at most high/2^40 to the power k.
abbrev pub HasMeanAtMost : (ℕ → ℕ → ℕ) → ℕ → List ℕ → Type 0
HasMeanAtMost c high walk =
    (2 ^ 40) ^ step_count walk * next_product c walk ≤ high ^ step_count walk * spent_product c walk

-- A closed walk, no more steps of it than observations, whose geometric mean is at most high/2^40.
abbrev pub MeanFails : ℕ → (ℕ → ℕ → ℕ) → ℕ → List ℕ → Finding
MeanFails n c high walk = InOrder (
    Unless (length walk ≤ n + 1) Shape 1
    ∷ ClosedWalkFails n walk
    ∷ Unless (HasMeanAtMost c high walk) Bound 0
    ∷ [])

-- A value is positive and at most 2^60.
abbrev pub FitsFactor : ℕ → Type 0
FitsFactor x = (1 ≤ x) × (x ≤ 2 ^ 60)

-- The value of s bounds every step from it: V_t low c(s,s) ≤ V_s c(s,t) 2^40.
abbrev pub BoundsProductsFrom : ℕ → (ℕ → ℕ → ℕ) → ℕ → List ℕ → ℕ → Type 0
BoundsProductsFrom n c low values s = (t : ℕ) → t < n
    → (slice_index values t * low) * c s s ≤ (slice_index values s * c s t) * 2 ^ 40

-- Values: one for each observation, each within its width, and each bounds the steps from it.
abbrev pub FactorsFail : ℕ → (ℕ → ℕ → ℕ) → ℕ → List ℕ → Finding
FactorsFail n c low values = InOrder (
    Unless (length values ≡ n) Shape 2
    ∷ FirstUnless (length values) (λ s. FitsFactor (slice_index values s)) Number
    ∷ FirstUnless n (BoundsProductsFrom n c low values) Order
    ∷ [])

-- An upper bound of at most 1, the walk, and the values.
abbrev pub HomotheticLevelFails : ℕ → (ℕ → ℕ → ℕ) → HomotheticLevelPart → Finding
HomotheticLevelFails n c part = InOrder (
    Unless (part.high ≤ 2 ^ 40) Number 0
    ∷ MeanFails n c part.high part.walk
    ∷ FactorsFail n c part.low part.values
    ∷ [])
