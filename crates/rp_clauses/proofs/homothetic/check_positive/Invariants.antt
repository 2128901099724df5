use Rattle.std.proofs.Common.{◌≤◌, ℕ, ◌<◌}
use Rattle.rp_evidence.specs.Homothetic.{value_at}
use Rattle.rp_clauses.proofs.homothetic.check_positive.Given as goal

abbrev pub invariant-loop-s : goal.invariant-loop-s
invariant-loop-s l = (s : ℕ) → s < l.s → (1 ≤ (value_at l.values s).num) × (1 ≤ (value_at l.values s).den)
