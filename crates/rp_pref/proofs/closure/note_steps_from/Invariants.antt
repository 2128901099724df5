use Rattle.rp_pref.specs.Steps.{StepOf}
use Rattle.rp_pref.proofs.Noted.{HasNoted}
use Rattle.rp_pref.proofs.closure.note_steps_from.Given as goal

abbrev pub invariant-loop-place : goal.invariant-loop-place
invariant-loop-place g l = HasNoted l.initial.bits l.bits l.s l.place (g.P.Revealed.count l.preference) (StepOf l.steps (g.P.Revealed.weak l.preference) (g.P.Revealed.strict l.preference) l.s)
