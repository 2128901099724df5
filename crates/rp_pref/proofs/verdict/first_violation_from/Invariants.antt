use Rattle.std.proofs.Common.{ℕ, ◌<◌}
use Rattle.rp_pref.specs.Violation.{Violate}
use Rattle.rp_pref.proofs.verdict.first_violation_from.Given as goal

abbrev pub invariant-loop-t : goal.invariant-loop-t
invariant-loop-t g l = (j : ℕ) → j < l.t
    → ¬ Violate (g.P.Revealed.count l.preference) (g.P.Revealed.weak l.preference) (g.P.Revealed.strict l.preference) l.s j
