use Rattle.std.proofs.Common.{arith}
use Rattle.rp_evidence.specs.DemandEvidence.{budget_of}
use Rattle.rp_evidence.specs.Input.{input_of_table}
use Rattle.rp_support.proofs.BelowLists.{below_observed, strict_start_decided}
use Rattle.rp_support.proofs.below.is_strict_start.Goals as goal

pub some_strict-requires-clause-listed : goal.some_strict-requires-clause-listed
some_strict-requires-clause-listed c =
    let b = c.args.budget.now in
    below_observed (input_of_table b.at.table.now) (budget_of b.at.prices.now b.m) c.args.below.now c.requires.below

pub returns-else-spending-budget : goal.returns-else-spending-budget
returns-else-spending-budget c =
    let b = c.args.budget.now in
    strict_start_decided (input_of_table b.at.table.now) (budget_of b.at.prices.now b.m) c.args.below.now c.requires.below c.args.v c.some_strict.result
    (λ rest. omega (arith, rest, c.spending.ensures.exact, c.if-spending-budget.false)) c.some_strict.ensures
