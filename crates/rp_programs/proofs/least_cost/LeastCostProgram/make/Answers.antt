use Rattle.rp_programs.proofs.ProgramLimits.{least_cost_within}
use Rattle.rp_programs.proofs.least_cost.LeastCostProgram.make.Goals as goal

pub invariant_of-result : goal.invariant_of-result
invariant_of-result c =
    let a = c.args in
    record {
      new = c.requires.prices;
      observed = c.requires.observed;
      few = c.requires.few;
      within = least_cost_within a.table.now c.goods.ensures.valid a.prices.now c.requires.prices a.listed.now c.requires.observed c.requires.few;
    }
