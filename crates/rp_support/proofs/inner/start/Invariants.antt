use Rattle.rp_evidence.specs.DemandEvidence.{budget_of}
use Rattle.rp_evidence.specs.Input.{input_of_table}
use Rattle.rp_support.specs.InnerStart.{IsBestSoFar}
use Rattle.rp_support.proofs.inner.start.Given as goal

abbrev pub invariant-loop-s : goal.invariant-loop-s
invariant-loop-s l = IsBestSoFar (input_of_table l.budget.at.table.now) (budget_of l.budget.at.prices.now l.budget.m) l.counts l.s l.best
