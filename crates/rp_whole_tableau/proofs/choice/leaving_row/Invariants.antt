use Rattle.std.proofs.Common.{ℕ, ◌<◌, IfNone, IfSome, length, pos, ◌<ℤ◌}
use Rattle.rp_whole_tableau.specs.Pivots.{number_at}
use Rattle.rp_whole_tableau.proofs.choice.leaving_row.Given as goal

abbrev pub invariant-loop-i : goal.invariant-loop-i
invariant-loop-i l = record {
  inside : IfSome l.best (λ r. r < length l.column);
  row : IfSome l.best (λ r. r < length l.t.basis.items);
  none : IfNone l.best ((k : ℕ) → k < l.i → ¬ (pos 0 <ℤ number_at l.column k));
  positive : IfSome l.best (λ r. pos 0 <ℤ number_at l.column r);
}
