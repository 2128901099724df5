-- The lists of the observations below and strictly below, by the marks.
use Rattle.std.proofs.Common.{◌≡◌, ◌≤◌, ℕ, List, Result, Err, refl, inl, inr, arith}
use Rattle.rp_evidence.specs.Demand.{BudgetInput, IsBelow, IsStrictlyBelow}
use Rattle.rp_evidence.specs.DemandPrograms.{ListsBelow, ListsStrictlyBelow}
use Rattle.rp_evidence.specs.Input.{TableInput}
use Rattle.rp_evidence.specs.declared.failure.Failure.{Failure}
use Rattle.rp_evidence.specs.declared.failure.Reason.TheVariants.{Set}
use Rattle.rp_check.specs.InnerSets.{AreFewOf, AreSets}
use Rattle.rp_evidence.specs.Clauses.{failure}
use Rattle.rp_check.specs.DemandFailure.{SetsFail}
use Rattle.rp_evidence.specs.Enumeration.{Enumerates}
use Rattle.rp_evidence.specs.Marks.{IsMarked}
use Rattle.rp_check.specs.declared.sets.Sets.{Sets}
use Rattle.rp_limits.specs.declared.table.TheConstants.{RECORDS}
use Rattle.rp_evidence.proofs.Enumerations.{enumerates_few, enumerates_observed, enumerates_same}

pub few_of : (n : ℕ) (P : ℕ → Type 0) (list : List ℕ) → n ≤ RECORDS → Enumerates n P list → AreFewOf n list
few_of n P list small lists = record {
  observed = enumerates_observed n P list lists;
  few = (let h = enumerates_few n P list lists in omega (arith, h));
}

module _ (input : TableInput) (budget : BudgetInput) (sets : Sets) (are : AreSets input budget sets) (below strict : List ℕ) where
  pub lists_below : Enumerates input.n (IsMarked sets.below) below → ListsBelow input budget below
  lists_below lists = enumerates_same input.n (IsMarked sets.below) (IsBelow input budget) are.below below lists

  pub lists_strictly : Enumerates input.n (IsMarked sets.strict) strict → ListsStrictlyBelow input budget strict
  lists_strictly lists = enumerates_same input.n (IsMarked sets.strict) (IsStrictlyBelow input budget) are.strict strict lists

  back_below : ListsBelow input budget below → Enumerates input.n (IsMarked sets.below) below
  back_below l =
      enumerates_same input.n (IsBelow input budget) (IsMarked sets.below) (λ t t_in. ((are.below t t_in).1, (are.below t t_in).0)) below l

  back_strictly : ListsStrictlyBelow input budget strict → Enumerates input.n (IsMarked sets.strict) strict
  back_strictly l =
      enumerates_same input.n (IsStrictlyBelow input budget) (IsMarked sets.strict) (λ t t_in. ((are.strict t t_in).1, (are.strict t t_in).0)) strict l

  pub below_fails : (r : Result (Unit {0}) Failure) → ¬ Enumerates input.n (IsMarked sets.below) below → r ≡ Err (failure Set 1) → SetsFail input budget below strict r
  below_fails r not e = rw e (inl ((λ l. not (back_below l)), refl))

  pub strict_fails : (r : Result (Unit {0}) Failure) → Enumerates input.n (IsMarked sets.below) below → ¬ Enumerates input.n (IsMarked sets.strict) strict → r ≡ Err (failure Set 2)
      → SetsFail input budget below strict r
  strict_fails r lists not e = rw e (inr (lists_below lists, inl ((λ l. not (back_strictly l)), refl)))

pub few_below : (input : TableInput) (budget : BudgetInput) (below : List ℕ) → input.n ≤ RECORDS → ListsBelow input budget below → AreFewOf input.n below
few_below input budget below small l = few_of input.n (IsBelow input budget) below small l
