use Rattle.std.proofs.Common.{◌∙◌, sym}
use Rattle.std.proofs.lemmas.Bool.{false≢true}
use Rattle.rp_pref.proofs.SearchLemmas.{looks_past, looks_at}
use Rattle.rp_pref.proofs.search.look.Goals as goal
use Rattle.rp_pref.proofs.search.look.Goals.{then-table-u+then-depths-t-eq0, else-table-u, else-table-u-via-then-table-u+else-depths-t-eq0, else-table-u-via-else-table-u}

pub loop-t-preserved : goal.loop-t-preserved
loop-t-preserved c =
    let a = c.args in
    let l = c.loop-t in
    let j = c.if-table-u in
    elim c.if-table-u.branch [
      | then-table-u+then-depths-t-eq0 w ↦
          looks_at a.table.now a.n a.s a.u l.t a.depths.now l.depths l.before l.found l.invariant c.loop-t-test.true c.requires.from c.requires.walked
          w.if-table-u.true w.if-depths-t-eq0.true j.depths j.before j.found w.depths-is w.before-is w.found-is
      | else-table-u w ↦
          looks_past a.table.now a.n a.s a.u l.t a.depths.now l.depths l.before l.found l.invariant c.loop-t-test.true c.requires.from c.requires.walked
          (elim w.else-table-u.branch [
            | else-table-u-via-then-table-u+else-depths-t-eq0 v ↦ λ _. v.if-depths-t-eq0.false
            | else-table-u-via-else-table-u v ↦ λ step. absurd (false≢true (sym v.if-table-u.false ∙ step))
          ])
          j.depths j.before j.found w.depths-is w.before-is w.found-is
    ]
