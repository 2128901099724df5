use Rattle.rp_programs.specs.declared.demand.Extreme.TheVariants.{Greatest}
use Rattle.rp_programs.proofs.ProgramLimits.{demand_within}
use Rattle.rp_programs.proofs.demand.DemandProgram.greatest.Goals as goal

pub invariant_of-result : goal.invariant_of-result
invariant_of-result c =
    let b = c.args.budget.now in
    record {
      observed = c.requires.observed;
      few = c.requires.few;
      within = demand_within b.at.table.now c.goods.ensures.valid b.at.prices.now b.at.new c.args.below.now c.requires.observed c.requires.few b.m b.spends Greatest c.args.good;
    }
