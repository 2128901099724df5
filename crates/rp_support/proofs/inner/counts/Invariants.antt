use Rattle.std.proofs.Common.{◌≡◌, ◌<◌, ℕ, length, slice_index}
use Rattle.rp_evidence.specs.Count.{IsCount}
use Rattle.rp_evidence.specs.Preference.{IsWeak}
use Rattle.rp_table.specs.Cost.{cost_of}
use Rattle.rp_table.specs.Tables.{records_of}
use Rattle.rp_support.proofs.inner.counts.Given as goal

abbrev pub invariant-loop-s : goal.invariant-loop-s
invariant-loop-s l = record {
  one_each : length l.counts.items ≡ l.s;
  each : (t : ℕ) → t < l.s → IsCount (records_of l.budget.at.table.now) (IsWeak (cost_of l.budget.at.table.now)) t (slice_index l.counts.items t);
}
