use Rattle.rp_support.specs.InnerMarks.{IsReachedFrom}
use Rattle.rp_evidence.proofs.Enumerations.{enumerates_pushed, enumerates_without}
use Rattle.std.proofs.lemmas.Bool.{false≢true}
use Rattle.std.proofs.Common.{sym, ◌∙◌}
use Rattle.rp_support.proofs.below.reached_from.Goals as goal
use Rattle.rp_support.proofs.below.reached_from.Goals.{then-is_reached+in_ok-push, else-is_reached}

pub loop-t-preserved : goal.loop-t-preserved
loop-t-preserved c =
    let P = IsReachedFrom c.args.closure.now c.args.starts.now in
    let l = c.loop-t in
    elim c.if-is_reached.branch [
      | then-is_reached+in_ok-push w ↦ rw w.reached-is (enumerates_pushed P l.t l.reached.items l.invariant (c.is_reached.ensures.0 w.if-is_reached.true) _ w.in_ok-push.ensures.items)
      | else-is_reached w ↦ rw w.reached-is (enumerates_without P l.t l.reached.items l.invariant (λ h. false≢true (sym w.if-is_reached.false ∙ c.is_reached.ensures.1 h)))
    ]
