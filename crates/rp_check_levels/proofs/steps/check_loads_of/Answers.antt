use Rattle.std.proofs.Common.{List, subst}
use Rattle.rp_table.specs.Cost.{cost_of}
use Rattle.rp_table.specs.Tables.{records_of}
use Rattle.rp_check_levels.specs.WalksFailure.{LoadsFail}
use Rattle.rp_check_levels.specs.declared.measure.Measure.TheVariants.{Steps}
use Rattle.rp_fit.specs.declared.weighted.WeightedWalk.{WeightedWalk}
use Rattle.rp_check_levels.proofs.steps.check_loads_of.Goals as goal

pub returns : goal.returns
returns c =
    let table = c.args.input.now.table.now in
    subst (λ (walks : List WeightedWalk). LoadsFail (records_of table) (cost_of table) Steps c.args.part.now.den walks c.check_loads.result) c.as_slice.ensures c.check_loads.ensures
