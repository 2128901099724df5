-- Words of sums that only proofs need: the sum over the steps of a list, and how much a step adds.
use Rattle.std.specs.Prelude.{ℕ, ◌<◌, ℤ, pos, neg_ℤ, ◌+ℤ◌, ◌≤ℤ◌, List, [], ◌∷◌}

-- The sum over the steps from t to the first of the list, and so on.
abbrev pub added_along : (ℕ → ℕ → ℤ) → ℕ → List ℕ → ℤ
added_along added t [] = pos 0
added_along added t (s ∷ rest) = added t s +ℤ added_along added s rest

-- No step adds more than b or less than -b.
abbrev pub AddsWithin : ℕ → (ℕ → ℕ → ℤ) → ℕ → Type 0
AddsWithin n added b = (t s : ℕ) → t < n → s < n → (added t s ≤ℤ pos b) × (neg_ℤ (pos b) ≤ℤ added t s)
