use Rattle.std.proofs.Common.{arith}
use Rattle.rp_evidence.specs.InnerBudget.{input_of, new_budget}
use Rattle.rp_check.proofs.SetLists.{few_below}
use Rattle.rp_check.proofs.demand.check_bounds.Goals as goal

pub check_goods-requires : goal.check_goods-requires
check_goods-requires c = record {
  below = few_below (input_of c.args.budget.now.at) (new_budget c.args.budget.now) c.args.below.now (omega (arith, c.n.ensures.count, c.n.ensures.few)) c.in_ok-check_lists.ensures.0;
}
