use Rattle.rp_num.proofs.decimal.extended.Goals as goal
use Rattle.rp_num.proofs.DecimalText.{extended_more}

pub loop-digit-preserved : goal.loop-digit-preserved
loop-digit-preserved c =
    extended_more c.args.digits.now c.args.units c.loop-digit.digit-index _ _ _ c.requires.digits c.loop-digit-test.true c.loop-digit.invariant c.from.ensures c.min-extended.ensures
