use Rattle.rp_pref.proofs.Rounds.{HasClosedRows}
use Rattle.rp_pref.proofs.bits.close.Given as goal

abbrev pub invariant-loop-k : goal.invariant-loop-k
invariant-loop-k l = HasClosedRows l.initial.bits l.bits l.k
