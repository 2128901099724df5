use Rattle.std.proofs.Common.{map}
use Rattle.rp_frame.proofs.PartLemmas.{IsCutTo}
use Rattle.rp_frame.proofs.parts.read_parts.Given as goal

abbrev pub invariant-loop-size : goal.invariant-loop-size
invariant-loop-size l = IsCutTo l.sizes l.bytes l.size-index l.at (map (λ part. part.now) l.parts.items)
