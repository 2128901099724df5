use Rattle.std.proofs.Common.{arith, sym, ◌∙◌}
use Rattle.rp_forms.proofs.TextLemmas.{blanks_after}
use Rattle.rp_forms.proofs.texts.before_blanks.Goals as goal
use Rattle.rp_forms.proofs.texts.before_blanks.Goals.{then-loop-end-test+else-is_blank, else-loop-end-test}

pub returns : goal.returns
returns c =
    let before = c.loop-end.invariant in
    blanks_after c.args.text.now c.loop-end.end before.within before.blank
    (elim c.loop-end-test.branch [
      | then-loop-end-test+else-is_blank w ↦ (λ _. sym w.is_blank.ensures ∙ w.if-is_blank.false)
      | else-loop-end-test w ↦ (λ more. absurd (omega (arith, more, w.loop-end-test.false)))
    ])
