use Rattle.std.proofs.Common.{◌≡◌, ◌<◌, ◌/◌, ◌%◌, ◌↔◌, ℕ, false, IsTrue, slice_index_or, vec_len}
use Rattle.rp_pref.specs.Steps.{StepOf}
use Rattle.rp_pref.proofs.walk.step_table.Given as goal

abbrev pub invariant-loop-place : goal.invariant-loop-place
invariant-loop-place g l = record {
  each : vec_len l.table ≡ l.place;
  exact : (k : ℕ) → k < l.place → IsTrue (slice_index_or l.table.items k false) ↔ StepOf l.steps (g.P.Revealed.weak l.preference) (g.P.Revealed.strict l.preference) (k / l.n) (k % l.n);
}
