use Rattle.rp_check_walk_levels.proofs.PumpSound.{ratio_by_sums}
use Rattle.rp_table.specs.Cost.{cost_of}
use Rattle.rp_check_walk_levels.proofs.pump.has_pump_ratio.Goals as goal

pub returns : goal.returns
returns c =
    let told = ratio_by_sums (cost_of c.args.input.now.table.now) c.args.walk.now c.args.num c.args.den c.spent_along.result c.next_along.result c.requires.some c.spent_along.ensures.sum c.next_along.ensures.sum in
    (λ h. told.0 (c.is_part.ensures.0 h), λ h. c.is_part.ensures.1 (told.1 h))
