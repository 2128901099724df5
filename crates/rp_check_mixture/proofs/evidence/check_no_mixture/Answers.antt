use Rattle.rp_patch.specs.KindFailure.{ViolationFailsOf}
use Rattle.rp_evidence.proofs.ClauseLemmas.{passed_on}
use Rattle.rp_check_mixture.proofs.InParts.{fails_before, one_each_cell, shares_fit, then_weighed}
use Rattle.rp_check_mixture.proofs.evidence.check_no_mixture.Goals as goal

pub returns-in_err-check_partial_mixture : goal.returns-in_err-check_partial_mixture
returns-in_err-check_partial_mixture g c =
    let k = g.C.CellUnits.kinds c.args.choosers.now in
    let e = c.in_err-check_partial_mixture.field-0.0 in
    passed_on c.from_residual.result e (ViolationFailsOf k c.args.den c.args.shares.now c.args.weights.now) c.from_residual.ensures
    (fails_before k c.args.den c.args.shares.now c.args.weights.now e c.in_err-check_partial_mixture.ensures)

pub all_weigh-requires : goal.all_weigh-requires
all_weigh-requires g c = one_each_cell (g.C.CellUnits.kinds c.args.choosers.now) c.args.den c.args.shares.now c.args.weights.now c.in_ok-check_partial_mixture.ensures

pub check_weights-requires-clause-shares : goal.check_weights-requires-clause-shares
check_weights-requires-clause-shares g c = shares_fit (g.C.CellUnits.kinds c.args.choosers.now) c.args.den c.args.shares.now c.args.weights.now c.in_ok-check_partial_mixture.ensures

pub check_weights-requires-clause-one_each : goal.check_weights-requires-clause-one_each
check_weights-requires-clause-one_each g c = one_each_cell (g.C.CellUnits.kinds c.args.choosers.now) c.args.den c.args.shares.now c.args.weights.now c.in_ok-check_partial_mixture.ensures

pub returns : goal.returns
returns g c =
    then_weighed (g.C.CellUnits.kinds c.args.choosers.now) c.args.den c.args.shares.now c.args.weights.now c.check_weights.result
    c.in_ok-check_partial_mixture.ensures c.check_weights.ensures
