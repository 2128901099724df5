use Rattle.std.proofs.Common.{ℕ, ◌-◌, ◌≡◌, ◌≤◌, ◌↔◌}
use Rattle.rp_effic.proofs.FirstTrueLemmas.{Halves}
use Rattle.rp_effic.proofs.ask.first_true.Given as goal

abbrev pub invariant-loop-low : goal.invariant-loop-low
invariant-loop-low g l = record {
  holds_stays : (j : ℕ) → g.A.Ask.holds l.asker j ↔ g.A.Ask.holds l.fn.asker j;
  places_stay : g.A.Ask.places l.asker ≡ g.A.Ask.places l.fn.asker;
  asks_rise : g.A.Ask.asks l.fn.asker ≤ g.A.Ask.asks l.asker;
  halves : Halves (g.A.Ask.places l.fn.asker) (g.A.Ask.holds l.fn.asker) (g.A.Ask.asks l.asker - g.A.Ask.asks l.fn.asker) l.low l.high;
}

abbrev pub decreases-loop-low : goal.decreases-loop-low
decreases-loop-low g l = l.high - l.low
