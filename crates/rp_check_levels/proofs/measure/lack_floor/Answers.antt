use Rattle.std.proofs.Common.{◌^◌}
use Rattle.rp_check_levels.proofs.Floors.{floor_of_one, floor_small}
use Rattle.rp_check_levels.proofs.measure.lack_floor.Goals as goal

pub returns-clause-value : goal.returns-clause-value
returns-clause-value c = rw (c.from.ensures, c.from-2.ensures) (floor_of_one (2 ^ 40) c.args.less c.args.spent)

pub returns-clause-small : goal.returns-clause-small
returns-clause-small c = rw (c.from.ensures, c.from-2.ensures) (floor_small (2 ^ 40) c.args.less c.args.spent c.requires.some c.requires.part)
