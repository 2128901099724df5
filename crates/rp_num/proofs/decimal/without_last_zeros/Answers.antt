use Rattle.std.proofs.Common.{arith}
use Rattle.rp_num.proofs.decimal.without_last_zeros.Goals as goal
use Rattle.rp_num.proofs.decimal.without_last_zeros.Goals.{then-loop-kept-test+else-digits-kept-eq48, else-loop-kept-test}
use Rattle.rp_num.proofs.DecimalText.{without_last_zeros_is}

pub returns : goal.returns
returns c =
    let zeros = c.loop-kept.invariant in
    without_last_zeros_is c.args.digits.now c.loop-kept.kept zeros.0 zeros.1
    (elim c.loop-kept-test.branch [
      | then-loop-kept-test+else-digits-kept-eq48 w ↦ (λ p. w.if-digits-kept-eq48.false)
      | else-loop-kept-test w ↦ (λ p. absurd (omega (arith, p, w.loop-kept-test.false)))
    ])
