use Rattle.std.proofs.Common.{◌∙◌, sym}
use Rattle.std.proofs.lemmas.Bool.{false≢true}
use Rattle.rp_pref.proofs.DepthLemmas.{deepens_at, deepens_past}
use Rattle.rp_pref.proofs.search.deepen.Goals as goal
use Rattle.rp_pref.proofs.search.deepen.Goals.{then-depths-u+then-look, then-depths-u+else-look, else-depths-u}

pub loop-u-preserved : goal.loop-u-preserved
loop-u-preserved c =
    let a = c.args in
    let l = c.loop-u in
    let j = c.if-depths-u in
    elim c.if-depths-u.branch [
      | then-depths-u+then-look w ↦
          let r = w.look in
          rw (w.depths-is, w.before-is)
          (deepens_at a.table.now a.n a.s a.depth l.u a.depths.now l.depths l.before l.found l.invariant c.loop-u-test.true
          r.new.depths r.new.before r.result w.if-depths-u.true r.ensures.sound r.ensures.adds r.ensures.looked r.ensures.finds j.found
          (λ _. w.found-is ∙ w.if-look.true) (λ e. absurd (false≢true (sym e ∙ w.if-look.true))))
      | then-depths-u+else-look w ↦
          let r = w.look in
          rw (w.depths-is, w.before-is)
          (deepens_at a.table.now a.n a.s a.depth l.u a.depths.now l.depths l.before l.found l.invariant c.loop-u-test.true
          r.new.depths r.new.before r.result w.if-depths-u.true r.ensures.sound r.ensures.adds r.ensures.looked r.ensures.finds j.found
          (λ e. absurd (false≢true (sym w.if-look.false ∙ e))) (λ _. w.found-is))
      | else-depths-u w ↦
          rw (w.depths-is, w.before-is, w.found-is)
          (deepens_past a.table.now a.n a.s a.depth l.u a.depths.now l.depths l.before l.found l.invariant w.if-depths-u.false)
    ]
