-- When evidence for the generalized axiom fails, by a preference (this program's own order of clauses; ranks: after
-- Varian 1982).
use Rattle.std.specs.Prelude.{◌≡◌, ◌<◌, ◌≤◌, ℕ, List, [], ◌∷◌, length, slice_index}
use Rattle.rp_evidence.specs.Clauses.{Finding, Unless, InOrder, FirstUnless}
use Rattle.rp_clauses.specs.WalkFailure.{ViolationFails}
use Rattle.rp_evidence.specs.declared.failure.Reason.TheVariants.{Shape, Order}
use Rattle.rp_evidence.specs.declared.garp.Garp.{Garp}
use Rattle.rp_evidence.specs.declared.garp.Garp.TheVariants.{Ranks, Cycle}

-- No weak step from s rises, and each strict one falls.
abbrev pub RespectsAt : ℕ → (ℕ → ℕ → Type 0) → (ℕ → ℕ → Type 0) → List ℕ → ℕ → Type 0
RespectsAt n weak strict ranks s = (t : ℕ) → t < n
    → (weak s t → slice_index ranks t ≤ slice_index ranks s) × (strict s t → slice_index ranks t < slice_index ranks s)

-- Each strict step from s falls.
abbrev pub OrdersAt : ℕ → (ℕ → ℕ → Type 0) → List ℕ → ℕ → Type 0
OrdersAt n strict ranks s = (t : ℕ) → t < n → strict s t → slice_index ranks t < slice_index ranks s

-- Ranks that respect a preference.
abbrev pub RanksFail : ℕ → (ℕ → ℕ → Type 0) → (ℕ → ℕ → Type 0) → List ℕ → Finding
RanksFail n weak strict ranks = InOrder (
    Unless (length ranks ≡ n) Shape 0 ∷ FirstUnless n (RespectsAt n weak strict ranks) Order ∷ [])

-- Ranks that order strict steps.
abbrev pub OrderingFails : ℕ → (ℕ → ℕ → Type 0) → List ℕ → Finding
OrderingFails n strict ranks = InOrder (
    Unless (length ranks ≡ n) Shape 0 ∷ FirstUnless n (OrdersAt n strict ranks) Order ∷ [])

-- Evidence on a preference: ranks that respect it, or a violation by it.
abbrev pub GarpFails : ℕ → (ℕ → ℕ → Type 0) → (ℕ → ℕ → Type 0) → Garp → Finding
GarpFails n weak strict (Ranks ranks) = RanksFail n weak strict ranks
GarpFails n weak strict (Cycle walk) = ViolationFails n weak strict walk
