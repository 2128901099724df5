use Rattle.std.proofs.Common.{ℕ, ◌<◌}
use Rattle.rp_pref.specs.Violation.{Violate}
use Rattle.rp_pref.proofs.verdict.first_violation.Given as goal

abbrev pub invariant-loop-s : goal.invariant-loop-s
invariant-loop-s g l = (i j : ℕ) → i < l.s → j < g.P.Revealed.count l.preference
    → ¬ Violate (g.P.Revealed.count l.preference) (g.P.Revealed.weak l.preference) (g.P.Revealed.strict l.preference) i j
