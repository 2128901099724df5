use Rattle.std.proofs.Common.{◌≡◌, ◌<◌, ℕ, length, slice_index}
use Rattle.rp_pref.specs.Closure.{IsCountIn}
use Rattle.rp_pref.proofs.closure.Closure.counts.Given as goal

abbrev pub invariant-loop-s : goal.invariant-loop-s
invariant-loop-s l = record {
  one_each : length l.counts.items ≡ l.s;
  each : (t : ℕ) → t < l.s → IsCountIn l.self t (slice_index l.counts.items t);
}
