-- When evidence for the quasilinear test fails (this program's own order of clauses; Brown and Calsamiglia 2007).
use Rattle.std.specs.Prelude.{◌≡◌, ◌^◌, ◌<◌, ◌+ℤ◌, ◌≤ℤ◌, ◌<ℤ◌, ℕ, ℤ, pos, neg_ℤ, List, [], ◌∷◌, length, slice_index_or}
use Rattle.rp_evidence.specs.Clauses.{Finding, Unless, InOrder, FirstUnless}
use Rattle.rp_clauses.specs.WalkFailure.{ClosedWalkFails}
use Rattle.rp_evidence.specs.Quasilinear.{step_sum, walk_sum}
use Rattle.rp_evidence.specs.declared.quasilinear.Quasi.{Quasi}
use Rattle.rp_evidence.specs.declared.quasilinear.Quasi.TheVariants.{Values, Cycle}
use Rattle.rp_evidence.specs.declared.failure.Reason.TheVariants.{Shape, Number, Order, NotLess}

-- The value of an observation; past the last it is 0.
abbrev pub level_at : List ℤ → ℕ → ℤ
level_at values s = slice_index_or values s (pos 0)

-- A value is at most 2^100 in absolute value.
abbrev pub FitsValue : ℤ → Type 0
FitsValue x = (neg_ℤ (pos (2 ^ 100)) ≤ℤ x) × (x ≤ℤ pos (2 ^ 100))

-- The value of t bounds every step from it: U_s ≤ U_t + c(t,s) - c(t,t).
abbrev pub BoundsAt : ℕ → (ℕ → ℕ → ℕ) → List ℤ → ℕ → Type 0
BoundsAt n c values t = (s : ℕ) → s < n → level_at values s ≤ℤ (level_at values t +ℤ step_sum c t s)

-- Each value is within its width.
abbrev pub WidthsFail : List ℤ → Finding
WidthsFail values = FirstUnless (length values) (λ s. FitsValue (level_at values s)) Number

-- Values: one for each observation, each within its width, and each bounds the steps from it.
abbrev pub ValuesFail : ℕ → (ℕ → ℕ → ℕ) → List ℤ → Finding
ValuesFail n c values = InOrder (
    Unless (length values ≡ n) Shape 0
    ∷ WidthsFail values
    ∷ FirstUnless n (BoundsAt n c values) Order
    ∷ [])

-- A cycle: it is closed, and its sum is negative.
abbrev pub CycleFails : ℕ → (ℕ → ℕ → ℕ) → List ℕ → Finding
CycleFails n c walk = InOrder (ClosedWalkFails n walk ∷ Unless (walk_sum c walk <ℤ pos 0) NotLess 0 ∷ [])

abbrev pub QuasilinearFails : ℕ → (ℕ → ℕ → ℕ) → Quasi → Finding
QuasilinearFails n c (Values values) = ValuesFail n c values
QuasilinearFails n c (Cycle walk) = CycleFails n c walk
