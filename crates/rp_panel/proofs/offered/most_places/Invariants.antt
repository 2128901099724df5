use Rattle.std.proofs.Common.{◌≡◌}
use Rattle.rp_offered.specs.Offered.{AreFew}
use Rattle.rp_panel.specs.OfferedText.{places_below}
use Rattle.rp_panel.proofs.offered.most_places.Given as goal

abbrev pub invariant-loop-h : goal.invariant-loop-h
invariant-loop-h l = record {
  exact : l.places ≡ places_below l.panel.households l.h;
  few : AreFew l.places;
}
