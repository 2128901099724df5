use Rattle.std.proofs.Common.{sym, ◌∙◌}
use Rattle.std.proofs.lemmas.Bool.{false≢true}
use Rattle.rp_evidence.specs.DemandEvidence.{budget_of}
use Rattle.rp_evidence.specs.Input.{input_of_table}
use Rattle.rp_check.proofs.DemandClauses.{from_none_shown, from_shown, from_violation, part_fails}
use Rattle.rp_check.proofs.demand.check_demand.Goals as goal

pub returns-then-not-garp_shown : goal.returns-then-not-garp_shown
returns-then-not-garp_shown c =
    let a = c.args in
    part_fails (input_of_table a.input.now.table.now) a.garp_shown a.prices.now a.m a.evidence.now c.fails.result c.in_ok-check_prices.ensures c.in_ok-check_expenditure.ensures
    (from_none_shown (input_of_table a.input.now.table.now) a.garp_shown (budget_of a.prices.now a.m) a.evidence.now c.fails.result
    (λ h. false≢true (sym c.if-not-garp_shown.true ∙ h)) _ _ _ _ c.in-Bounds.is c.fails.ensures)

pub returns-else-not-garp_shown : goal.returns-else-not-garp_shown
returns-else-not-garp_shown c =
    let a = c.args in
    part_fails (input_of_table a.input.now.table.now) a.garp_shown a.prices.now a.m a.evidence.now c.check_bounds.result c.in_ok-check_prices.ensures c.in_ok-check_expenditure.ensures
    (from_shown (input_of_table a.input.now.table.now) a.garp_shown (budget_of a.prices.now a.m) a.evidence.now c.check_bounds.result c.if-not-garp_shown.false
    _ _ _ _ _ _ _ c.in-Bounds.is c.as_slice.ensures c.as_slice-in-Bounds.ensures c.as_slice-in-Bounds-2.ensures c.check_bounds.ensures)

pub returns-in-NoModel : goal.returns-in-NoModel
returns-in-NoModel c =
    let a = c.args in
    part_fails (input_of_table a.input.now.table.now) a.garp_shown a.prices.now a.m a.evidence.now c.check_violation.result c.in_ok-check_prices.ensures c.in_ok-check_expenditure.ensures
    (from_violation (input_of_table a.input.now.table.now) a.garp_shown (budget_of a.prices.now a.m) a.evidence.now c.check_violation.result
    _ _ c.in-NoModel.is c.as_slice-in-NoModel.ensures c.check_violation.ensures)
