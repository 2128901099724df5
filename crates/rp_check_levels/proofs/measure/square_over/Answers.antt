use Rattle.rp_check_levels.proofs.Floors.{square_over_small}
use Rattle.rp_check_levels.proofs.measure.square_over.Goals as goal

pub returns-clause-small : goal.returns-clause-small
returns-clause-small c =
    rw c.from.ensures (square_over_small c.args.less c.args.spent c.square_of.result c.square_of.ensures.value c.requires.some c.requires.part c.requires.narrow)
