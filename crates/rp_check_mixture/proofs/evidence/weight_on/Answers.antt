use Rattle.std.proofs.Common.{List, ℕ, ap, arith, true, false, sym, ◌∙◌, ◌+◌}
use Rattle.rp_patch.specs.Kinds.{uses}
use Rattle.rp_check_mixture.proofs.ShareLemmas.{taken_more}
use Rattle.rp_check_mixture.proofs.evidence.weight_on.Goals as goal
use Rattle.rp_check_mixture.proofs.evidence.weight_on.Goals.{then-uses, else-uses}

pub loop-share-preserved : goal.loop-share-preserved
loop-share-preserved g c =
    let a = c.args in
    let k = g.C.CellUnits.kinds a.choosers.now in
    let used = c.uses.ensures ∙ ap (λ (list : List ℕ). uses (k.used list) a.cell) c.as_slice.ensures in
    elim c.if-uses.branch [
      | then-uses w ↦
          taken_more k a.shares.now a.cell c.loop-share.share-index c.loop-share.weight c.share-item.result true c.if-uses.weight (omega arith) c.share-item.is c.requires.fit
          (sym w.if-uses.true ∙ used) c.loop-share.invariant (w.weight-is ∙ ap (λ x. c.loop-share.weight + x) w.from-weight.ensures)
      | else-uses w ↦
          taken_more k a.shares.now a.cell c.loop-share.share-index c.loop-share.weight c.share-item.result false c.if-uses.weight (omega arith) c.share-item.is c.requires.fit
          (sym w.if-uses.false ∙ used) c.loop-share.invariant (omega (arith, w.weight-is))
    ]
