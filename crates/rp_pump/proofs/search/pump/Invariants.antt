use Rattle.std.proofs.Common.{◌≡◌, ◌∷◌, []}
use Rattle.rp_table.specs.Cost.{cost_at}
use Rattle.rp_pump.specs.InnerBest.{IsBest}
use Rattle.rp_pump.proofs.Rounds.{left}
use Rattle.rp_pump.proofs.search.pump.Given as goal

abbrev pub invariant-rounds : goal.invariant-rounds
invariant-rounds l = record {
  best : IsBest l.costs.n (cost_at l.costs) l.best.num l.best.den l.best.cycle;
  resting : l.best.num ≡ 0 → l.best.cycle ≡ 0 ∷ 0 ∷ [];
}

abbrev pub decreases-rounds : goal.decreases-rounds
decreases-rounds l = left l.best.num l.best.den
