use Rattle.std.proofs.Common.{arith, length-drop}
use Rattle.std.proofs.lemmas.List.{take_rest}
use Rattle.rp_outside.proofs.Counts.{HasRisen-next, count-rises}
use Rattle.rp_outside.proofs.Growth.{FallsShort-front, Grows-more}
use Rattle.rp_outside.proofs.pouring.pour.Goals as goal

pub loop-at-preserved : goal.loop-at-preserved
loop-at-preserved g c =
    let fits = c.in-Ok.ensures.within in
    let on = c.in-Ok.ensures.progress in
    record {
      in_range = omega (arith, length-drop c.loop-at.at c.args.bytes.now, fits);
      gone_out = Grows-more _ _ _ c.args.bytes.now c.loop-at.at c.in-Ok.n c.loop-at.invariant.gone_out (rw (take_rest c.args.bytes.now c.loop-at.at) at c.in-Ok.ensures.grows);
      calls_rise = rw c.in-Ok.ensures.call_counted (count-rises _ _ c.loop-at.invariant.calls_rise);
      some_write = λ _. rw c.in-Ok.ensures.call_counted (HasRisen-next _ _ c.loop-at.invariant.calls_rise);
      calls_counted = omega (arith, length-drop c.loop-at.at c.args.bytes.now, on);
      never_falls = omega (arith, c.in-Ok.ensures.never_falls);
    }

pub returns-in-Err-clause-falls_short : goal.returns-in-Err-clause-falls_short
returns-in-Err-clause-falls_short g c =
    FallsShort-front _ _ c.args.bytes.now c.loop-at.at c.loop-at-test.true (λ w known. c.in-Err.ensures.failed_stays _ (c.loop-at.invariant.gone_out w known))

pub returns-in-Err-clause-some_write : goal.returns-in-Err-clause-some_write
returns-in-Err-clause-some_write g c = λ _. rw c.in-Err.ensures.call_counted (HasRisen-next _ _ c.loop-at.invariant.calls_rise)
