-- What an item on random choices says of any persons, whatever relations their preferences are (McFadden and Richter
-- 1990; Kitamura and Stoye 2018). The k-th relation is the preference of whoever has the name k.
use Rattle.std.specs.Prelude.{ℕ, ◌*◌, ◌≤◌, List, Option}
use Rattle.rp_evidence.specs.Demand.{FractionBundle}
use Rattle.rp_evidence.specs.declared.random.RandomPart.{RandomPart}
use Rattle.rp_evidence.specs.declared.random.RandomPart.TheVariants.{Mixture, Violated, Wide}
use Rattle.rp_patch.specs.Choices.{RandomInput}
use Rattle.rp_patch.specs.Kinds.{weight_of}
use Rattle.rp_patch.specs.Patches.{PatchList}
use Rattle.rp_patch.specs.Units.{ArePatchesOf}
use Rattle.rp_persons.specs.PersonMixtures.{IsFullRandomInput, MakeChoices, MakePartOfChoices, PersonShare}
use Rattle.rp_persons.specs.PersonMixtures.{weight_of_persons}

-- These persons make no more than the share num/den of the choices.
abbrev pub MakeAtMost : RandomInput → PatchList → (ℕ → FractionBundle → FractionBundle → Type 0) → ℕ → ℕ → Type 0
MakeAtMost input p prefers num den = (d : ℕ) (persons : List (PersonShare ℕ))
    → MakePartOfChoices input p prefers d persons → weight_of_persons persons * den ≤ num * (d * p.total)

-- A violation: finitely many such persons do not make the choices, and they make no more than the share that is shown.
abbrev pub RandomOfAny : RandomInput → PatchList → (ℕ → FractionBundle → FractionBundle → Type 0) → RandomPart → Type 0
RandomOfAny input p prefers (Mixture den parts) = Unit {0}
RandomOfAny input p prefers (Violated den parts weights) = ((d : ℕ) (persons : List (PersonShare ℕ))
    → ¬ MakeChoices input p prefers d persons) × MakeAtMost input p prefers (weight_of parts) (den * p.total)
RandomOfAny input p prefers (Wide step) = Unit {0}

-- It says so of all choices that have these patches.
abbrev pub SaysOfAny : PatchList → (ℕ → FractionBundle → FractionBundle → Type 0) → RandomPart → Type 0
SaysOfAny p prefers part = (input : RandomInput) (asked : Option ℕ) → IsFullRandomInput input
    → ArePatchesOf input asked p → RandomOfAny input p prefers part
