-- What is given for the units of cells: by the run of the program of mixtures of kinds (McFadden and Richter 1990; this
-- program's own run).
use Rattle.std.specs.Prelude.{◌≡◌, ◌≢◌, ◌*◌, ℕ, List, map, slice_index_or, []}
use Rattle.rp_evidence.specs.declared.random.RandomPart.{RandomPart}
use Rattle.rp_evidence.specs.declared.random.RandomPart.TheVariants.{Mixture, Violated, Wide}
use Rattle.rp_evidence.specs.declared.random.Share.{Share}
use Rattle.rp_farkas.specs.declared.entry.Entry.{Entry}
use Rattle.rp_farkas.specs.declared.entry.Pair.{Pair}
use Rattle.rp_patch.specs.Kinds.{IsMixtureOf, Kinds, ProvesNoMixtureOf, mixture_program, weight_of}
use Rattle.rp_simplex.specs.Outcome.{IsOutcome}
use Rattle.rp_simplex.specs.SameOutcome.{IsSameOutcome}
use Rattle.rp_simplex.specs.declared.outcome.Outcome.{Outcome}
use Rattle.rp_simplex.specs.declared.outcome.Outcome.TheVariants.{Optimal, Unbounded, Wide as PassedWidth}

-- Evidence proves its verdict: the parts are a mixture, or there is none. What is withheld has no verdict.
abbrev pub ProvesMixture : Kinds → RandomPart → Type 0
ProvesMixture k (Mixture den parts) = IsMixtureOf k den parts
ProvesMixture k (Violated den parts weights) = ProvesNoMixtureOf k den parts weights
ProvesMixture k (Wide step) = Unit {0}

-- The kinds of positive weight, in order: those of the listed entries of a point.
abbrev pub shares_of : List (List ℕ) → List Entry → List Share
shares_of kinds entries =
    map (λ entry. record { patches = slice_index_or kinds entry.at []; weight = entry.value }) entries

-- From an equal pair: a mixture where its kinds have the whole total, else a violation, with its price side as weights.
abbrev pub IsPairVerdict : Kinds → List (List ℕ) → Pair → RandomPart → Type 0
IsPairVerdict k kinds pair (Mixture den parts) =
    (den ≡ pair.den) × (parts ≡ shares_of kinds pair.y) × (weight_of parts ≡ den * k.total)
IsPairVerdict k kinds pair (Violated den parts weights) =
    (den ≡ pair.den) × (parts ≡ shares_of kinds pair.y) × (weights ≡ pair.x) × (weight_of parts ≢ den * k.total)
IsPairVerdict k kinds pair (Wide step) = ⊥

-- What an outcome of the run gives.
abbrev pub IsOutcomeVerdict : Kinds → List (List ℕ) → Outcome → RandomPart → Type 0
IsOutcomeVerdict k kinds (Optimal pair) part = IsPairVerdict k kinds pair part
IsOutcomeVerdict k kinds (PassedWidth step) part = part ≡ Wide step
IsOutcomeVerdict k kinds (Unbounded den point ray) part = ⊥

-- The verdict is made from the outcome of the run of the program of mixtures of these kinds, and the run has no other:
-- it never ends unbounded, and the verdict is withheld just where it passes its width, at that step.
pub record IsRunVerdict (k : Kinds) (kinds : List (List ℕ)) (part : RandomPart) : Type 0 where
  pub outcome : Outcome
  pub run : IsOutcome (mixture_program k kinds) outcome
  pub only : (other : Outcome) → IsOutcome (mixture_program k kinds) other
      → IsSameOutcome (mixture_program k kinds) outcome other
  pub made : IsOutcomeVerdict k kinds outcome part
