use Rattle.rp_check_levels.proofs.Sums.{goes_by_places}
use Rattle.rp_check_levels.specs.Loads.{loads}
use Rattle.rp_table.specs.Cost.{cost_of}
use Rattle.rp_check_levels.proofs.loads.goes_by.Goals as goal

pub returns : goal.returns
returns c =
    goes_by_places (loads c.args.measure (cost_of c.args.input.now.table.now) c.args.s c.args.t) c.args.walk.now c.loads_at_some.result c.loads_at_some.ensures
