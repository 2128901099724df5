use Rattle.std.proofs.Common.{arith}
use Rattle.rp_evidence.specs.Input.{input_of_table}
use Rattle.rp_check.proofs.WelfareClauses.{from_bounds, from_violation}
use Rattle.rp_check.proofs.welfare.check_welfare.Goals as goal

pub returns-else-at-n : goal.returns-else-at-n
returns-else-at-n c =
    let a = c.args in
    from_bounds (input_of_table a.input.now.table.now) a.garp_shown a.prices.now a.t a.evidence.now c.check_bounds.result c.in_ok-check_prices.ensures
    _ _ _ c.in-Bounds.is (omega arith) (omega arith) c.check_bounds.ensures

pub returns-in-NoModel : goal.returns-in-NoModel
returns-in-NoModel c =
    let a = c.args in
    from_violation (input_of_table a.input.now.table.now) a.garp_shown a.prices.now a.t a.evidence.now c.check_no_model.result c.in_ok-check_prices.ensures
    _ _ c.in-NoModel.is c.as_slice.ensures c.check_no_model.ensures
