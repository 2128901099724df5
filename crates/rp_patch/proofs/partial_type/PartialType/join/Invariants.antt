use Rattle.rp_patch.specs.InnerJoined.{IsJoined}
use Rattle.rp_patch.proofs.partial_type.PartialType.join.Given as goal

abbrev pub invariant-loop-k : goal.invariant-loop-k
invariant-loop-k l = IsJoined l.initial.self l.self l.into l.from l.k
