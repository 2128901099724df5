use Rattle.std.proofs.Common.{ℕ, arith}
use Rattle.rp_evidence.specs.DemandEvidence.{budget_of}
use Rattle.rp_evidence.specs.DemandPrograms.{lower_program, upper_program}
use Rattle.rp_evidence.specs.Input.{input_of_table}
use Rattle.rp_evidence.specs.declared.demand.GoodBounds.{GoodBounds}
use Rattle.rp_simplex.specs.ProgramBound.{IsBoundOf}
use Rattle.rp_support.proofs.ListSteps.{entry_more}
use Rattle.rp_support.proofs.goods.goods.Goals as goal

pub loop-g-preserved : goal.loop-g-preserved
loop-g-preserved c =
    let b = c.args.budget.now in
    let l = c.loop-g in
    let pair : GoodBounds = record { lower = c.in_ok-lower.lower; upper = c.in_ok-upper.upper } in
    let R = λ (k : ℕ) (d : GoodBounds). IsBoundOf (lower_program (input_of_table b.at.table.now) (budget_of b.at.prices.now b.m) c.args.below.now k) (λ x. x k) d.lower in
    let S = λ (k : ℕ) (d : GoodBounds). IsBoundOf (upper_program (input_of_table b.at.table.now) (budget_of b.at.prices.now b.m) c.args.below.now k) (λ x. x k) d.upper in
    record {
      one_each = omega (arith, l.invariant.one_each, c.in_ok-push.ensures.len, l.goods.ok.0, c.push.new.self.ok.0);
      lower = entry_more R l.goods.items l.g pair l.invariant.one_each l.invariant.lower c.in_ok-lower.ensures c.push.new.self.items c.in_ok-push.ensures.items;
      upper = entry_more S l.goods.items l.g pair l.invariant.one_each l.invariant.upper c.in_ok-upper.ensures c.push.new.self.items c.in_ok-push.ensures.items;
    }
