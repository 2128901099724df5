use Rattle.std.proofs.Common.{List, subst}
use Rattle.std.specs.Prelude.{ℤ}
use Rattle.rp_check_walk_levels.specs.PumpFailure.{PumpValuesFail}
use Rattle.rp_table.specs.Cost.{cost_of}
use Rattle.rp_table.specs.Tables.{records_of}
use Rattle.rp_check_walk_levels.proofs.pump.check_values_of.Goals as goal

pub returns : goal.returns
returns c =
    let table = c.args.input.now.table.now in
    subst (λ (values : List ℤ). PumpValuesFail (records_of table) (cost_of table) c.args.part.now.num c.args.part.now.den values c.check_values.result) c.as_slice.ensures c.check_values.ensures
