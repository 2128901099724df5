use Rattle.rp_check_mixture.proofs.InParts.{weighed_within}
use Rattle.rp_check_mixture.proofs.choices.check_weights_within.Goals as goal

pub check_weights-requires-clause-weighed : goal.check_weights-requires-clause-weighed
check_weights-requires-clause-weighed c = c.in-Some.ensures.decided

pub returns-in-Some : goal.returns-in-Some
returns-in-Some c =
    weighed_within c.args.patches.now c.args.den c.args.shares.now c.args.weights.now c.args.steps c.check_weights.result
    c.in-Some.ensures.within c.check_weights.ensures
