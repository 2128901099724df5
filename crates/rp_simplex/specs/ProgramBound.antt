-- The bound of a linear program: a measure of the prices at which its run ends (duality of linear programming as in
-- Gale, Kuhn and Tucker 1951), or where the run is withheld (this project's own).
use Rattle.std.specs.Prelude.{◌≡◌, ◌↔◌, ℕ}
use Rattle.rp_evidence.specs.BoundEvidence.{BoundHolds}
use Rattle.rp_evidence.specs.declared.demand.Bound.{Bound}
use Rattle.rp_evidence.specs.declared.demand.Bound.TheVariants.{Shown, Wide}
use Rattle.rp_farkas.specs.Best.{IsLeastCost}
use Rattle.rp_farkas.specs.LinearProgram.{LinearProgram}
use Rattle.rp_simplex.specs.Evidence.{IsEvidence}
use Rattle.rp_simplex.specs.Outcome.{IsOutcome, EndsPastWidth}
use Rattle.rp_simplex.specs.SameOutcome.{IsSameOutcome}
use Rattle.rp_simplex.specs.declared.outcome.Outcome.{Outcome}
use Rattle.rp_simplex.specs.declared.outcome.Outcome.TheVariants.{Optimal, Wide as PassedWidth}

-- The outcome of a run that a bound is made from.
abbrev pub outcome_of : Bound → Outcome
outcome_of (Shown value pair) = Optimal pair
outcome_of (Wide step) = PassedWidth step

-- The bound is made from the outcome of the run of the program, and the run has no other: it never ends unbounded,
-- and the bound is withheld just where the run passes its width, at that step. A shown pair is an equal pair, whose
-- prices are the best, and the value is their measure in lowest terms.
pub record IsBoundOf (p : LinearProgram) (measure : (ℕ → ℕ) → ℕ) (bound : Bound) : Type 0 where
  pub run : IsOutcome p (outcome_of bound)
  pub only : (other : Outcome) → IsOutcome p other → IsSameOutcome p (outcome_of bound) other
  pub withheld : (step : ℕ) → (bound ≡ Wide step) ↔ EndsPastWidth p step
  pub evidence : IsEvidence p (outcome_of bound)
  pub value : BoundHolds p measure bound

-- A shown value is the least that feasible prices of the program cost.
abbrev pub ShowsLeastCost : LinearProgram → Bound → Type 0
ShowsLeastCost p (Shown value pair) = IsLeastCost p value.num value.den
ShowsLeastCost p (Wide step) = Unit {0}
