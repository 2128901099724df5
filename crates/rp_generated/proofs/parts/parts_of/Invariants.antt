use Rattle.std.proofs.Common.{take}
use Rattle.rp_generated.specs.Rounds.{AreParts}
use Rattle.rp_generated.proofs.parts.parts_of.Given as goal

abbrev pub invariant-loop-k : goal.invariant-loop-k
invariant-loop-k l = AreParts l.program (take l.k l.entries) l.parts.items
