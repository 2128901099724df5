use Rattle.std.proofs.Common.{arith, refl}
use Rattle.std.proofs.lemmas.List.{get_or_read}
use Rattle.rp_table.specs.Cost.{cost_of}
use Rattle.rp_clauses.proofs.HomotheticSteps.{step_below, step_holds, step_wide}
use Rattle.rp_clauses.proofs.homothetic.check_step.Goals as goal

pub returns-then-is_below : goal.returns-then-is_below
returns-then-is_below c =
    step_below (cost_of c.args.input.now.table.now) c.args.values.now c.args.t c.args.s c.index-values-t.result
    (get_or_read c.args.values.now c.args.t c.index-values-t.result (omega arith) c.index-values-t.is (record { num = 0; den = 1 }))
    c.index-values-s.result (get_or_read c.args.values.now c.args.s c.index-values-s.result (omega arith) c.index-values-s.is (record { num = 0; den = 1 }))
    c.in-Ok.product c.taken_on.ensures.fraction c.taken_on.ensures.own c.in-Ok.ensures.product
    (λ wide. absurd (cc (c.in-Ok.ensures.wide.1 wide)))
    c.fails.result (c.if-is_below.ensures.0 refl) c.fails.ensures

pub returns-else-is_below : goal.returns-else-is_below
returns-else-is_below c =
    step_holds (cost_of c.args.input.now.table.now) c.args.values.now c.args.t c.args.s c.index-values-t.result
    (get_or_read c.args.values.now c.args.t c.index-values-t.result (omega arith) c.index-values-t.is (record { num = 0; den = 1 }))
    c.index-values-s.result (get_or_read c.args.values.now c.args.s c.index-values-s.result (omega arith) c.index-values-s.is (record { num = 0; den = 1 }))
    c.in-Ok.product c.taken_on.ensures.fraction c.taken_on.ensures.own c.in-Ok.ensures.product
    (λ wide. absurd (cc (c.in-Ok.ensures.wide.1 wide)))
    (λ less. absurd (cc (c.if-is_below.ensures.1 less)))

pub returns-in-Err : goal.returns-in-Err
returns-in-Err c =
    step_wide (cost_of c.args.input.now.table.now) c.args.values.now c.args.t c.args.s c.index-values-t.result
    (get_or_read c.args.values.now c.args.t c.index-values-t.result (omega arith) c.index-values-t.is (record { num = 0; den = 1 }))
    c.fails-in-Err.result (c.in-Err.ensures.wide.0 refl) c.fails-in-Err.ensures
