use Rattle.std.proofs.Common.{ℕ, ◌<◌}
use Rattle.rp_garp.specs.InnerMeeting.{SomeViolateAt}
use Rattle.rp_garp.proofs.meeting.is_violated.Given as goal

abbrev pub invariant-loop-t : goal.invariant-loop-t
invariant-loop-t g l = (j : ℕ) → j < l.t → ¬ SomeViolateAt (g.P.Revealed.count l.preference) (g.P.Revealed.weak l.preference) (g.P.Revealed.strict l.preference) j
