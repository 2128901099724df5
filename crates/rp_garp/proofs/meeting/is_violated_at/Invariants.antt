use Rattle.std.proofs.Common.{ℕ, ◌<◌}
use Rattle.rp_pref.specs.Violation.{Violate}
use Rattle.rp_garp.proofs.meeting.is_violated_at.Given as goal

abbrev pub invariant-loop-s : goal.invariant-loop-s
invariant-loop-s g l = (i : ℕ) → i < l.s
    → ¬ Violate (g.P.Revealed.count l.preference) (g.P.Revealed.weak l.preference) (g.P.Revealed.strict l.preference) i l.t
