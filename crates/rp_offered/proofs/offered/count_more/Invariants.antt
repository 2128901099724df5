use Rattle.std.proofs.Common.{◌≡◌, ◌≤◌}
use Rattle.rp_offered.specs.Offered.{costs_more, count_below, offer_at}
use Rattle.rp_offered.proofs.offered.count_more.Given as goal

abbrev pub invariant-loop-t : goal.invariant-loop-t
invariant-loop-t l = record {
  counted : l.count ≡ count_below l.t (λ t. costs_more l.places (offer_at l.places l.table t));
  few : l.count ≤ l.t;
}
