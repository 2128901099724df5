use Rattle.std.proofs.Common.{arith}
use Rattle.rp_evidence.specs.DemandEvidence.{budget_of}
use Rattle.rp_evidence.specs.Input.{input_of_table}
use Rattle.rp_evidence.specs.Demand.{IsStrictStart}
use Rattle.rp_support.proofs.ListSteps.{mark_more}
use Rattle.rp_support.proofs.below.strict_starts.Goals as goal

pub loop-v-preserved : goal.loop-v-preserved
loop-v-preserved c =
    let b = c.args.budget.now in
    let l = c.loop-v in
    record {
      one_each = omega (arith, l.invariant.one_each, c.in_ok-push.ensures.len);
      each = mark_more (IsStrictStart (input_of_table b.at.table.now) (budget_of b.at.prices.now b.m)) l.marks.items l.v c.is_strict_start.result
          (omega (arith, l.invariant.one_each, l.marks.ok.0)) l.invariant.each c.is_strict_start.ensures c.push.new.self.items c.in_ok-push.ensures.items;
    }
