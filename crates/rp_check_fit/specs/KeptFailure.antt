-- When evidence for the most observations that are consistent fails (this program's own order of clauses; the index:
-- Houtman and Maks 1985).
use Rattle.std.specs.Prelude.{◌≡◌, ◌<◌, ◌≤◌, ◌+◌, ◌-◌, ◌/◌, ℕ, List, [], ◌∷◌, length, slice_index, slice_index_or}
use Rattle.rp_fit.specs.Groups.{AreOfKind, allowed_by, weight_on}
use Rattle.rp_fit.specs.declared.kept.Group.{Group}
use Rattle.rp_fit.specs.declared.kept.GroupKind.TheVariants.{Pairs}
use Rattle.rp_fit.specs.declared.kept.KeptPart.{KeptPart}
use Rattle.rp_evidence.specs.Clauses.{Finding, FirstBelow, FirstUnless, InOrder, Unless}
use Rattle.rp_evidence.specs.Preference.{IsStrict, IsWeak}
use Rattle.rp_evidence.specs.declared.failure.Reason.TheVariants.{Shape, Number, Order, Set, Dual, Bound, Least}

-- Entry k of the list is below the next.
abbrev pub RisesAt : List ℕ → ℕ → Type 0
RisesAt list k = slice_index list k < slice_index list (k + 1)

-- From the kept observation at place i no weak step to a kept one rises in rank, and each strict one falls.
abbrev pub RespectsKeptAt : (ℕ → ℕ → ℕ) → List ℕ → List ℕ → ℕ → Type 0
RespectsKeptAt c kept ranks i = (j : ℕ) → j < length kept
    → (IsWeak c (slice_index kept i) (slice_index kept j) → slice_index ranks j ≤ slice_index ranks i)
    × (IsStrict c (slice_index kept i) (slice_index kept j) → slice_index ranks j < slice_index ranks i)

-- The kept observations, in increasing order, with a rank each that respects the steps between them.
abbrev pub SetFails : ℕ → (ℕ → ℕ → ℕ) → List ℕ → List ℕ → Finding
SetFails n c kept ranks = InOrder (
    Unless (length ranks ≡ length kept) Shape 0
    ∷ FirstUnless (length kept) (λ k. slice_index kept k < n) Number
    ∷ FirstUnless (length kept - 1) (RisesAt kept) Set
    ∷ FirstUnless (length kept) (RespectsKeptAt c kept ranks) Order
    ∷ [])

-- Group k, from 0.
abbrev pub group_at : List Group → ℕ → Group
group_at groups k = slice_index_or groups k (record { weight = 0; kind = Pairs; members = [] })

-- Group k: some weight, and observations of the kind that they are said to be.
abbrev pub GroupFails : ℕ → (ℕ → ℕ → ℕ) → List Group → ℕ → Finding
GroupFails n c groups k = InOrder (
    Unless (1 ≤ (group_at groups k).weight) Number (k + 1)
    ∷ Unless (AreOfKind n c (group_at groups k).kind (group_at groups k).members) Set (k + 1)
    ∷ [])

-- The groups, each in turn.
abbrev pub GroupsFail : ℕ → (ℕ → ℕ → ℕ) → List Group → Finding
GroupsFail n c groups = FirstBelow (length groups) (GroupFails n c groups)

-- The bound by the groups: the weights on each observation are the denominator or more, and what the groups allow, over
-- the denominator and rounded down, is the bound.
abbrev pub BoundFails : ℕ → ℕ → List Group → ℕ → Finding
BoundFails n den groups most = InOrder (
    FirstUnless n (λ s. den ≤ weight_on groups s) Dual
    ∷ Unless (allowed_by groups / den ≡ most) Bound 0
    ∷ [])

-- A denominator, the kept observations, the groups, the bound by them, and no more observations than it.
abbrev pub KeptFails : ℕ → (ℕ → ℕ → ℕ) → KeptPart → Finding
KeptFails n c part = InOrder (
    Unless (1 ≤ part.den) Number 0
    ∷ SetFails n c part.kept part.ranks
    ∷ GroupsFail n c part.groups
    ∷ BoundFails n part.den part.groups part.most
    ∷ Unless (length part.kept ≤ part.most) Least 0
    ∷ [])
