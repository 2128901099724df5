use Rattle.rp_pref.proofs.Rounds.{HasGoneRows}
use Rattle.rp_pref.proofs.bits.go_through.Given as goal

abbrev pub invariant-loop-s : goal.invariant-loop-s
invariant-loop-s l = HasGoneRows l.initial.bits l.bits l.k l.s
