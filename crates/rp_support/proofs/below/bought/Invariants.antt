use Rattle.std.proofs.Common.{◌≡◌, vec_len}
use Rattle.rp_evidence.specs.Demand.{Buys}
use Rattle.rp_evidence.specs.DemandEvidence.{budget_of}
use Rattle.rp_evidence.specs.Input.{input_of_table}
use Rattle.rp_evidence.specs.Marks.{AreMarked}
use Rattle.rp_support.proofs.below.bought.Given as goal

abbrev pub invariant-loop-s : goal.invariant-loop-s
invariant-loop-s l = record {
  one_each : vec_len l.marks ≡ l.s;
  each : AreMarked l.s (Buys (input_of_table l.budget.at.table.now) (budget_of l.budget.at.prices.now l.budget.m)) l.marks.items;
}
