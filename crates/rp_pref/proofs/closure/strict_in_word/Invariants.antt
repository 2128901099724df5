use Rattle.rp_pref.specs.InnerBits.{IsWordOf}
use Rattle.rp_pref.proofs.closure.strict_in_word.Given as goal

abbrev pub invariant-loop-t : goal.invariant-loop-t
invariant-loop-t g l = IsWordOf l.place l.t (g.P.Revealed.strict l.preference l.s) l.word
