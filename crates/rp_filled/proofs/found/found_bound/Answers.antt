use Rattle.std.proofs.Common.{ap, sym}
use Rattle.rp_evidence.specs.BoundEvidence.{BoundHolds}
use Rattle.rp_evidence.specs.DemandEvidence.{withheld_bound}
use Rattle.rp_farkas.specs.Measure.{measured}
use Rattle.rp_filled.proofs.FoundLemmas.{bound_fits, bound_given, bound_stays}
use Rattle.rp_filled.proofs.found.found_bound.Goals as goal

pub returns-in-Some : goal.returns-in-Some
returns-in-Some g c =
    let p = g.P.Lp.program c.args.p.now in
    let found = c.in-Some.found in
    let none = rw c.in-Some.is at c.in_ok-found-in-Wide.ensures.given in
    let holds = rw c.in-Some.is at c.in_ok-found-in-Wide.ensures.holds in
    let reduced = rw c.in-Some.is at c.in_ok-found-in-Wide.ensures.reduced in
    bound_given (BoundHolds p (measured p c.args.measure)) c.args.stated found (ap withheld_bound c.in-Wide.is) none holds
    (bound_fits p (measured p c.args.measure) found (g.met.P.Lp.within_limits c.args.p.now).cols_at_most none holds reduced)

pub returns-in-None : goal.returns-in-None
returns-in-None g c =
    let p = g.P.Lp.program c.args.p.now in
    bound_stays (BoundHolds p (measured p c.args.measure)) c.args.stated _ (sym c.in-Wide.is)

pub returns-in-Shown : goal.returns-in-Shown
returns-in-Shown g c =
    let p = g.P.Lp.program c.args.p.now in
    bound_stays (BoundHolds p (measured p c.args.measure)) c.args.stated _ (sym c.in-Shown.is)
