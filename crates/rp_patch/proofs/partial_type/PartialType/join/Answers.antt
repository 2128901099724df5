use Rattle.std.proofs.Common.{ap, rules}
use Rattle.rp_patch.specs.declared.partial_type.PartialType.{PartialType}
use Rattle.rp_patch.proofs.PartialTypeLaws.{joined_more, joined_same}
use Rattle.rp_patch.proofs.partial_type.PartialType.join.Goals as goal
use Rattle.rp_patch.proofs.partial_type.PartialType.join.Goals.{then-meet, else-meet}

pub loop-k-preserved : goal.loop-k-preserved
loop-k-preserved c = elim c.if-meet.branch [
  | then-meet w ↦
      joined_more c.args.self.now c.loop-k.self c.if-meet.self c.args.into c.args.from c.loop-k.k w.union.result c.loop-k.invariant (search rules)
      (ap (λ (x : PartialType). x.taken) w.self-is) (ap (λ (x : PartialType). x.patches) w.self-is) (ap (λ (x : PartialType). x.reached) w.self-is) w.union.ensures (search rules)
  | else-meet w ↦
      joined_same c.args.self.now c.loop-k.self c.if-meet.self c.args.into c.args.from c.loop-k.k c.loop-k.invariant w.self-is (search rules)
]
