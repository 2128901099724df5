use Rattle.std.proofs.Common.{arith, sym, ◌∙◌}
use Rattle.rp_forms.proofs.TextLemmas.{blanks_before}
use Rattle.rp_forms.proofs.texts.after_blanks.Goals as goal
use Rattle.rp_forms.proofs.texts.after_blanks.Goals.{then-loop-start-test+else-is_blank, else-loop-start-test}

pub returns : goal.returns
returns c =
    let before = c.loop-start.invariant in
    blanks_before c.args.text.now c.loop-start.start before.within before.blank
    (elim c.loop-start-test.branch [
      | then-loop-start-test+else-is_blank w ↦ (λ _. sym w.is_blank.ensures ∙ w.if-is_blank.false)
      | else-loop-start-test w ↦ (λ more. absurd (omega (arith, more, w.loop-start-test.false)))
    ])
