-- When evidence for the least cost of steps fails (this program's own order of clauses; the index: Dean and Martin 2016).
use Rattle.std.specs.Prelude.{◌≡◌, ◌<◌, ◌≤◌, ◌-◌, ℕ, false, List, [], ◌∷◌, length, slice_index, slice_index_or}
use Rattle.rp_check_levels.specs.WalksFailure.{LoadsFail, WalksFail}
use Rattle.rp_check_levels.specs.declared.measure.Measure.TheVariants.{Steps}
use Rattle.rp_evidence.specs.Clauses.{Finding, FirstUnless, InOrder, Unless}
use Rattle.rp_evidence.specs.Preference.{IsStrict}
use Rattle.rp_evidence.specs.declared.failure.Reason.TheVariants.{Shape, Number, Order, Set, Bound}
use Rattle.rp_fit.specs.Steps.{taken_cost}
use Rattle.rp_fit.specs.StepsEvidence.{is_taken}
use Rattle.rp_fit.specs.declared.steps.StepsPart.{StepsPart}

-- Entry k of the list is an observation to which a strict step of s leads, and above the entry before it.
abbrev pub IsStepAt : ℕ → (ℕ → ℕ → ℕ) → ℕ → List ℕ → ℕ → Type 0
IsStepAt n c s row k = (slice_index row k < n) × IsStrict c s (slice_index row k)
    × (0 < k → slice_index row (k - 1) < slice_index row k)

-- The list is of observations to which strict steps of s lead, in increasing order.
abbrev pub AreStepsFrom : ℕ → (ℕ → ℕ → ℕ) → ℕ → List ℕ → Type 0
AreStepsFrom n c s row = (k : ℕ) → k < length row → IsStepAt n c s row k

-- Along each strict step of s that is left the rank falls.
abbrev pub FallsFrom : ℕ → (ℕ → ℕ → ℕ) → List (List ℕ) → List ℕ → ℕ → Type 0
FallsFrom n c taken ranks s = (t : ℕ) → t < n → IsStrict c s t → is_taken taken s t ≡ false
    → slice_index ranks t < slice_index ranks s

-- A list of steps and a rank for each observation; the steps, in order; ranks that fall along the steps that are left.
abbrev pub TakenFails : ℕ → (ℕ → ℕ → ℕ) → List (List ℕ) → List ℕ → Finding
TakenFails n c taken ranks = InOrder (
    Unless (length taken ≡ n) Shape 1
    ∷ Unless (length ranks ≡ n) Shape 2
    ∷ FirstUnless n (λ s. AreStepsFrom n c s (slice_index_or taken s [])) Set
    ∷ FirstUnless n (FallsFrom n c taken ranks) Order
    ∷ [])

-- A denominator, what is taken away, its cost, the walks, and what they load.
abbrev pub StepsFail : ℕ → (ℕ → ℕ → ℕ) → StepsPart → Finding
StepsFail n c part = InOrder (
    Unless (1 ≤ part.den) Number 0
    ∷ TakenFails n c part.taken part.ranks
    ∷ Unless (taken_cost n c (is_taken part.taken) ≡ part.cost) Bound 0
    ∷ WalksFail n c part.walks
    ∷ LoadsFail n c Steps part.den part.walks
    ∷ [])
