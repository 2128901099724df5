use Rattle.std.proofs.Common.{ℕ, List, subst}
use Rattle.rp_check_walk_levels.specs.PumpFailure.{CycleFails}
use Rattle.rp_table.specs.Cost.{cost_of}
use Rattle.rp_table.specs.Tables.{records_of}
use Rattle.rp_check_walk_levels.proofs.pump.check_cycle_of.Goals as goal

pub returns : goal.returns
returns c =
    let table = c.args.input.now.table.now in
    subst (λ (walk : List ℕ). CycleFails (records_of table) (cost_of table) c.args.part.now.num c.args.part.now.den walk c.check_cycle.result) c.as_slice.ensures c.check_cycle.ensures
