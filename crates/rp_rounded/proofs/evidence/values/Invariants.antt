use Rattle.std.proofs.Common.{All}
use Rattle.rp_num.specs.Spelled.{IsReduced}
use Rattle.rp_rounded.proofs.evidence.values.Given as goal

abbrev pub invariant-loop-t : goal.invariant-loop-t
invariant-loop-t l = All IsReduced l.values.items
