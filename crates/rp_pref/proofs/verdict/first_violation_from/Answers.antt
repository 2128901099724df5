use Rattle.std.proofs.Common.{◌<◌, arith, below_more, sym, ◌∙◌}
use Rattle.std.proofs.lemmas.Bool.{false≢true}
use Rattle.rp_pref.proofs.verdict.first_violation_from.Goals as goal
use Rattle.rp_pref.proofs.verdict.first_violation_from.Goals.{else-reaches-via-then-reaches+else-is_strict, else-reaches-via-else-reaches}

pub loop-t-preserved : goal.loop-t-preserved
loop-t-preserved g c =
    let below : c.loop-t.t < g.P.Revealed.count c.args.preference.now = omega (arith, c.loop-t-test.true, c.n-t-end.ensures.count) in
    elim c.else-reaches.branch [
      | else-reaches-via-then-reaches+else-is_strict w ↦ below_more _ _ c.loop-t.invariant (λ violate. false≢true (sym w.if-is_strict.false ∙ w.is_strict.ensures.1 violate.1))
      | else-reaches-via-else-reaches w ↦ below_more _ _ c.loop-t.invariant
          (λ violate. false≢true (sym w.if-reaches.false ∙ c.reaches.ensures ∙ (c.requires.closed.exact c.args.s c.loop-t.t c.requires.start below).1 violate.0))
    ]
