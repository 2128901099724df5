use Rattle.std.proofs.Common.{◌≡◌, ◌≤ℤ◌, pos, subst, sym, get_or, slice_index}
use Rattle.std.proofs.lemmas.List.{get_or-take}
use Rattle.rp_patch.specs.PartialTypes.{taken_in}
use Rattle.rp_patch.specs.Patches.{sign_at}
use Rattle.rp_patch.proofs.PartialTypeLaws.{leads_more, leads_same}
use Rattle.rp_patch.proofs.partial_type.PartialType.from_next.Goals as goal
use Rattle.rp_patch.proofs.partial_type.PartialType.from_next.Goals.{then-is_weak, else-is_weak}

pub loop-j-preserved : goal.loop-j-preserved
loop-j-preserved c = λ t.
    let part = c.args.self.now in
    let same : slice_index (taken_in part) c.loop-j.j ≡ get_or part.patches c.loop-j.j 0 = get_or-take part.taken part.patches c.loop-j.j 0 c.loop-j-test.true in
    elim c.if-is_weak.branch [
      | then-is_weak w ↦ rw w.from-is (leads_more c.args.patches.now part c.loop-j.from c.loop-j.j c.loop-j.invariant w.union-from.result
          (subst (λ i. sign_at c.args.patches.now i part.taken ≤ℤ pos 0) (sym same) (c.is_weak.ensures.weak w.if-is_weak.true)) w.union-from.ensures t)
      | else-is_weak w ↦ rw w.from-is (leads_same c.args.patches.now part c.loop-j.from c.loop-j.j c.loop-j.invariant
          (subst (λ i. ¬ (sign_at c.args.patches.now i part.taken ≤ℤ pos 0)) (sym same) (c.is_weak.ensures.above w.if-is_weak.false)) t)
    ]
