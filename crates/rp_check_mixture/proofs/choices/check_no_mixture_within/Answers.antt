use Rattle.rp_evidence.proofs.ClauseLemmas.{passed_on}
use Rattle.rp_patch.specs.Mixtures.{types_on}
use Rattle.rp_check_mixture.specs.RandomWithin.{ViolationFailsWithin}
use Rattle.rp_check_mixture.proofs.InParts.{fails_before_within, one_each_cell, shares_fit, then_weighed_within}
use Rattle.rp_check_mixture.proofs.choices.check_no_mixture_within.Goals as goal

pub returns-in_err-check_partial_mixture : goal.returns-in_err-check_partial_mixture
returns-in_err-check_partial_mixture c =
    let e = c.in_err-check_partial_mixture.field-0.0 in
    passed_on c.from_residual.result e (ViolationFailsWithin c.args.patches.now c.args.den c.args.shares.now c.args.weights.now c.args.steps) c.from_residual.ensures
    (fails_before_within c.args.patches.now c.args.den c.args.shares.now c.args.weights.now c.args.steps e c.in_err-check_partial_mixture.ensures)

pub check_weights_within-requires-clause-shares : goal.check_weights_within-requires-clause-shares
check_weights_within-requires-clause-shares c = shares_fit (types_on c.args.patches.now) c.args.den c.args.shares.now c.args.weights.now c.in_ok-check_partial_mixture.ensures

pub check_weights_within-requires-clause-one_each : goal.check_weights_within-requires-clause-one_each
check_weights_within-requires-clause-one_each c = one_each_cell (types_on c.args.patches.now) c.args.den c.args.shares.now c.args.weights.now c.in_ok-check_partial_mixture.ensures

pub returns : goal.returns
returns c =
    then_weighed_within c.args.patches.now c.args.den c.args.shares.now c.args.weights.now c.args.steps c.check_weights_within.result
    c.in_ok-check_partial_mixture.ensures c.check_weights_within.ensures
