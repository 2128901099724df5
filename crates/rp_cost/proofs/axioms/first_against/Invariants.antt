use Rattle.std.proofs.Common.{ℕ, ◌<◌}
use Rattle.rp_cost.specs.Axioms.{Breaks}
use Rattle.rp_cost.proofs.axioms.first_against.Given as goal

abbrev pub invariant-loop-s : goal.invariant-loop-s
invariant-loop-s l = (j : ℕ) → j < l.s → ¬ Breaks l.test l.tech l.t j
