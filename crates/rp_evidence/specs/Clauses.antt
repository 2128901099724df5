-- What a list of clauses finds wrong: nothing, or the first clause that fails, with its reason and its place (this
-- program's own).
use Rattle.std.specs.Prelude.{◌≡◌, ◌+◌, ◌-◌, ◌^◌, ◌<◌, ◌⊎◌, ℕ, List, [], ◌∷◌, Result, Ok, Err, min}
use Rattle.rp_evidence.specs.declared.failure.Failure.{Failure}
use Rattle.rp_evidence.specs.declared.failure.Reason.{Reason}

-- What a check may answer: that nothing is wrong, or a failure.
abbrev pub Finding : Type 1
Finding = Result (Unit {0}) Failure → Type 0

-- A number as it is given: 2^32 - 1 stands for itself and every greater one.
abbrev pub cap : ℕ → ℕ
cap k = min k (2 ^ 32 - 1)

-- A failure by a reason at a place.
abbrev pub failure : Reason → ℕ → Failure
failure reason place = record { reason = reason; place = cap place }

-- One clause: nothing is found where it holds, else its reason at its place.
abbrev pub Unless : Type 0 → Reason → ℕ → Finding
Unless holds reason place (Ok done) = holds
Unless holds reason place (Err found) = (¬ holds) × (found ≡ failure reason place)

-- Clauses in order: what the first of them finds that finds something.
abbrev pub InOrder : List Finding → Finding
InOrder [] (Ok done) = Unit {0}
InOrder [] (Err found) = ⊥
InOrder (first ∷ rest) (Ok done) = first (Ok done) × InOrder rest (Ok done)
InOrder (first ∷ rest) (Err found) = first (Err found) ⊎ (first (Ok tt) × InOrder rest (Err found))

-- Clauses for each of the numbers 0, .., n - 1, in order.
abbrev pub FirstBelow : ℕ → (ℕ → Finding) → Finding
FirstBelow n each (Ok done) = (k : ℕ) → k < n → each k (Ok done)
FirstBelow n each (Err found) = (k : ℕ) × (k < n) × each k (Err found) × ((j : ℕ) → j < k → each j (Ok tt))

-- One clause for each of these numbers. Places are counted from 1.
abbrev pub FirstUnless : ℕ → (ℕ → Type 0) → Reason → Finding
FirstUnless n holds reason = FirstBelow n (λ k. Unless (holds k) reason (k + 1))
