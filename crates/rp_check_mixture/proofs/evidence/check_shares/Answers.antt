use Rattle.std.proofs.Common.{Ok, arith, below_more, length}
use Rattle.rp_patch.specs.KindFailure.{PartFailsOf}
use Rattle.rp_evidence.proofs.ClauseLemmas.{first_found}
use Rattle.rp_check_mixture.proofs.evidence.check_shares.Goals as goal

pub returns-in_err-check_share : goal.returns-in_err-check_share
returns-in_err-check_share g c =
    first_found (length c.args.shares.now) c.loop-k.k (PartFailsOf (g.C.CellUnits.kinds c.args.choosers.now) c.args.shares.now) c.from_residual.result c.in_err-check_share.field-0.0 (omega arith)
    c.loop-k.invariant c.in_err-check_share.ensures c.from_residual.ensures

pub loop-k-preserved : goal.loop-k-preserved
loop-k-preserved g c =
    below_more (λ k. PartFailsOf (g.C.CellUnits.kinds c.args.choosers.now) c.args.shares.now k (Ok tt)) c.loop-k.k c.loop-k.invariant c.in_ok-check_share.ensures
