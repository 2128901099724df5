use Rattle.rp_panel.proofs.PlacesLemmas.{more_places}
use Rattle.rp_panel.proofs.offered.most_places.Goals as goal

pub loop-h-preserved : goal.loop-h-preserved
loop-h-preserved c =
    let l = c.loop-h in
    record {
      exact = more_places c.args.panel.now.households l.h l.places c.in_ok-here.here c.greater-places.result l.invariant.exact c.in_ok-here.ensures.exact c.greater-places.ensures.prices c.greater-places.ensures.quantities;
      few = c.greater-places.ensures.few;
    }
