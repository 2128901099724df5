-- When evidence on the quasilinear level fails (this program's own order of clauses; the level: Afriat 1973; Brown and
-- Calsamiglia 2007).
use Rattle.std.specs.Prelude.{◌≡◌, ◌≤◌, ◌<◌, ◌+◌, ◌*◌, ◌^◌, ◌+ℤ◌, ◌≤ℤ◌, ℕ, ℤ, pos, neg_ℤ, List, [], ◌∷◌, length, slice_index_or}
use Rattle.rp_clauses.specs.WalkFailure.{ClosedWalkFails}
use Rattle.rp_evidence.specs.Clauses.{Finding, FirstUnless, InOrder, Unless}
use Rattle.rp_evidence.specs.declared.failure.Reason.TheVariants.{Bound, Number, Order, Shape}
use Rattle.rp_fit.specs.WalkSums.{next_sum, spent_sum}
use Rattle.rp_fit.specs.declared.quasilinear_level.QuasilinearLevelPart.{QuasilinearLevelPart}

-- A closed walk, no more steps of it than observations, on which the next bundles cost the part num/den of what was
-- spent.
abbrev pub RatioFails : ℕ → (ℕ → ℕ → ℕ) → ℕ → ℕ → List ℕ → Finding
RatioFails n c num den walk = InOrder (
    Unless (length walk ≤ n + 1) Shape 1
    ∷ ClosedWalkFails n walk
    ∷ Unless (num * spent_sum c walk ≡ den * next_sum c walk) Bound 0
    ∷ [])

-- The value of an observation; past the last it is 0.
abbrev pub value_at : List ℤ → ℕ → ℤ
value_at values s = slice_index_or values s (pos 0)

-- A value is at most 2^120 in absolute value.
abbrev pub FitsValue : ℤ → Type 0
FitsValue x = (neg_ℤ (pos (2 ^ 120)) ≤ℤ x) × (x ≤ℤ pos (2 ^ 120))

-- The value of s bounds every step from it: U_t + num c(s,s) ≤ U_s + den c(s,t).
abbrev pub BoundsFrom : ℕ → (ℕ → ℕ → ℕ) → ℕ → ℕ → List ℤ → ℕ → Type 0
BoundsFrom n c num den values s = (t : ℕ) → t < n
    → (value_at values t +ℤ pos (num * c s s)) ≤ℤ (value_at values s +ℤ pos (den * c s t))

-- Values: one for each observation, each within its width, and each bounds the steps from it.
abbrev pub ValuesFail : ℕ → (ℕ → ℕ → ℕ) → ℕ → ℕ → List ℤ → Finding
ValuesFail n c num den values = InOrder (
    Unless (length values ≡ n) Shape 2
    ∷ FirstUnless (length values) (λ s. FitsValue (value_at values s)) Number
    ∷ FirstUnless n (BoundsFrom n c num den values) Order
    ∷ [])

-- A denominator, the walk, and the values.
abbrev pub QuasilinearLevelFails : ℕ → (ℕ → ℕ → ℕ) → QuasilinearLevelPart → Finding
QuasilinearLevelFails n c part = InOrder (
    Unless (1 ≤ part.den) Number 0
    ∷ RatioFails n c part.num part.den part.walk
    ∷ ValuesFail n c part.num part.den part.values
    ∷ [])
