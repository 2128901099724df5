use Rattle.std.proofs.Common.{◌^◌}
use Rattle.rp_check_levels.proofs.Floors.{squared_small, squared_twice}
use Rattle.rp_check_levels.proofs.measure.squared_floor.Goals as goal

pub returns-clause-value : goal.returns-clause-value
returns-clause-value c =
    rw c.from-by.ensures
    (squared_twice (2 ^ 40) c.args.less c.args.spent c.square_of.result c.square_over.result c.requires.some c.square_of.ensures.value c.square_over.ensures.value)

pub returns-clause-small : goal.returns-clause-small
returns-clause-small c =
    rw c.from-by.ensures
    (squared_small (2 ^ 40) c.args.less c.args.spent c.square_of.result c.square_over.result c.requires.some c.requires.part c.square_of.ensures.value c.square_over.ensures.value)
