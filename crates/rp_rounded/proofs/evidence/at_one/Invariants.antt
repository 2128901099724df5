use Rattle.std.proofs.Common.{◌≡◌, vec_len}
use Rattle.rp_rounded.proofs.evidence.at_one.Given as goal

abbrev pub invariant-loop-s : goal.invariant-loop-s
invariant-loop-s l = vec_len l.best ≡ l.s
