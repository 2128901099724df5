use Rattle.std.proofs.lemmas.Result.{IfOk-weaker}
use Rattle.rp_evidence.specs.DemandEvidence.{budget_of}
use Rattle.rp_evidence.specs.Input.{input_of_table}
use Rattle.rp_support.proofs.BelowLists.{lists_strictly_below}
use Rattle.rp_support.proofs.below.strictly_below.Goals as goal

pub returns : goal.returns
returns c =
    let b = c.args.budget.now in
    IfOk-weaker c.reached_from.result _ _
    (λ those h. lists_strictly_below (input_of_table b.at.table.now) (budget_of b.at.prices.now b.m) c.args.closure.now c.requires.closed c.in_ok-starts.starts.items c.in_ok-starts.ensures
    those.items (rw (c.n.ensures.count, c.deref.ensures.value) at h)) c.reached_from.ensures
