-- When evidence on a mixture of kinds fails (this program's own order of clauses; kinds after McFadden and Richter
-- 1990). The clauses are about kinds as such, however they are found.
use Rattle.std.specs.Prelude.{◌≡◌, ◌⊎◌, ◌<◌, ◌≤◌, ◌+◌, ◌-◌, ◌*◌, ℕ, List, [], ◌∷◌, All, length, slice_index_or}
use Rattle.std.specs.Cmp.Lexicographic.{slice_cmp}
use Rattle.std.specs.Ordering.{nat_cmp}
use Rattle.std.specs.declared.cmp.Ordering.TheVariants.{Less}
use Rattle.rp_evidence.specs.declared.failure.Reason.TheVariants.{Shape, Number, Order, NotLess, Least, Dual, Units}
use Rattle.rp_evidence.specs.declared.failure.Reason.TheVariants.{Irrational}
use Rattle.rp_evidence.specs.declared.random.RandomPart.{RandomPart}
use Rattle.rp_evidence.specs.declared.random.RandomPart.TheVariants.{Mixture, Violated, Wide}
use Rattle.rp_evidence.specs.declared.random.Share.{Share}
use Rattle.rp_farkas.specs.Limits.{FitsEvidence}
use Rattle.rp_evidence.specs.Clauses.{Finding, FirstBelow, FirstUnless, InOrder, Unless}
use Rattle.rp_patch.specs.Kinds.{Kinds, all_units_weight, cells_weight, weight_of, weight_using}

-- The denominator and all weights are numbers that a program may give.
pub record HasFitNumbers (den : ℕ) (parts : List Share) (weights : List ℕ) : Type 0 where
  pub fraction : 0 < den
  pub den_fits : FitsEvidence den
  pub parts_fit : All (λ part. FitsEvidence part.weight) parts
  pub weights_fit : All FitsEvidence weights

-- Part n, from 0.
abbrev pub part_at : List Share → ℕ → Share
part_at parts n = slice_index_or parts n (record { patches = []; weight = 0 })

-- Part n is the first, or its kind comes after that of the part before it.
abbrev pub ComesInOrder : List Share → ℕ → Type 0
ComesInOrder parts n =
    (n ≡ 0) ⊎ (slice_cmp nat_cmp (part_at parts (n - 1)).patches (part_at parts n).patches ≡ Less)

-- Part n: a list as a kind is written, some weight, a kind, and in order.
abbrev pub PartFailsOf : Kinds → List Share → ℕ → Finding
PartFailsOf k parts n = InOrder (
    Unless (k.IsFormed (part_at parts n).patches) Shape (n + 1)
    ∷ Unless (0 < (part_at parts n).weight) Number (n + 1)
    ∷ Unless (k.IsKind (part_at parts n).patches) Irrational (n + 1)
    ∷ Unless (ComesInOrder parts n) Order (n + 1)
    ∷ [])

-- The parts, each in turn.
abbrev pub PartsFailOf : Kinds → List Share → Finding
PartsFailOf k parts = FirstBelow (length parts) (PartFailsOf k parts)

-- A mixture: each cell gets just its units.
abbrev pub MixtureFailsOf : Kinds → ℕ → List Share → Finding
MixtureFailsOf k den parts = InOrder (
    Unless (HasFitNumbers den parts []) Number 0
    ∷ PartsFailOf k parts
    ∷ FirstUnless k.cells (λ i. weight_using k parts i ≡ den * k.units i) Units
    ∷ [])

-- A violation: a weight of each cell; no cell gets more than its units; every kind weighs at least the denominator; the
-- parts have as much as the units weigh; and that is less than the total.
abbrev pub ViolationFailsOf : Kinds → ℕ → List Share → List ℕ → Finding
ViolationFailsOf k den parts weights = InOrder (
    Unless (HasFitNumbers den parts weights) Number 0
    ∷ PartsFailOf k parts
    ∷ Unless (length weights ≡ k.cells) Shape 0
    ∷ FirstUnless k.cells (λ i. weight_using k parts i ≤ den * k.units i) Units
    ∷ Unless ((kind : List ℕ) → k.IsKind kind → den ≤ cells_weight weights (k.used kind)) Dual 0
    ∷ Unless (weight_of parts ≡ all_units_weight k weights) Least 0
    ∷ Unless (weight_of parts < den * k.total) NotLess 0
    ∷ [])

-- What the evidence says. What is withheld claims nothing.
abbrev pub EvidenceFailsOf : Kinds → RandomPart → Finding
EvidenceFailsOf k (Mixture den parts) = MixtureFailsOf k den parts
EvidenceFailsOf k (Violated den parts weights) = ViolationFailsOf k den parts weights
EvidenceFailsOf k (Wide step) = InOrder []
