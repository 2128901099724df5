use Rattle.std.proofs.Common.{ℕ, ◌<◌}
use Rattle.std.specs.Prelude.{◌≤ℤ◌, ◌+ℤ◌}
use Rattle.rp_clauses.specs.QuasilinearFailure.{level_at}
use Rattle.rp_evidence.specs.Quasilinear.{step_sum}
use Rattle.rp_table.specs.Cost.{cost_of}
use Rattle.rp_clauses.proofs.quasilinear.bounds_steps.Given as goal

abbrev pub invariant-loop-s : goal.invariant-loop-s
invariant-loop-s l = (s : ℕ) → s < l.s → level_at l.values s ≤ℤ (level_at l.values l.t +ℤ step_sum (cost_of l.input.table.now) l.t s)
