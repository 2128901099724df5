-- What marks the sets of observations below a budget, and what lists of them are; words that only the crate's own
-- functions and their proofs need.
use Rattle.std.specs.Prelude.{◌<◌, ◌≤◌, ℕ, All, List, length}
use Rattle.rp_evidence.specs.Marks.{AreMarked}
use Rattle.rp_check.specs.declared.sets.Sets.{Sets}
use Rattle.rp_evidence.specs.Demand.{BudgetInput, IsBelow, IsStrictlyBelow}
use Rattle.rp_evidence.specs.Input.{TableInput}
use Rattle.rp_limits.specs.declared.table.TheConstants.{RECORDS}

-- The marks are those of the observations below and strictly below.
pub record AreSets (input : TableInput) (budget : BudgetInput) (sets : Sets) : Type 0 where
  pub below : AreMarked input.n (IsBelow input budget) sets.below
  pub strict : AreMarked input.n (IsStrictlyBelow input budget) sets.strict

-- Each entry is an observation, and there are no more than a table may have.
pub record AreFewOf (n : ℕ) (list : List ℕ) : Type 0 where
  pub observed : All (λ t. t < n) list
  pub few : length list ≤ RECORDS
