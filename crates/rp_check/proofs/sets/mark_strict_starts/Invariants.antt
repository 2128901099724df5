use Rattle.rp_evidence.specs.DemandEvidence.{budget_of}
use Rattle.rp_evidence.specs.Input.{input_of_table}
use Rattle.rp_evidence.specs.Demand.{IsStrictStart}
use Rattle.rp_evidence.specs.Marks.{AreMarked}
use Rattle.rp_check.proofs.sets.mark_strict_starts.Given as goal

abbrev pub invariant-loop-v : goal.invariant-loop-v
invariant-loop-v l = AreMarked l.v (IsStrictStart (input_of_table l.budget.at.table.now) (budget_of l.budget.at.prices.now l.budget.m)) l.marks
