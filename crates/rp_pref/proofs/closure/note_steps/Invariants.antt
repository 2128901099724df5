use Rattle.rp_pref.specs.Steps.{StepOf}
use Rattle.rp_pref.proofs.Noted.{HasNotedRows}
use Rattle.rp_pref.proofs.closure.note_steps.Given as goal

abbrev pub invariant-loop-s : goal.invariant-loop-s
invariant-loop-s g l = HasNotedRows l.initial.bits l.bits (g.P.Revealed.count l.preference) l.s (StepOf l.steps (g.P.Revealed.weak l.preference) (g.P.Revealed.strict l.preference))
