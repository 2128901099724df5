use Rattle.std.proofs.Common.{append-nil}
use Rattle.rp_front.proofs.GainsLemmas.{gains_either}
use Rattle.rp_front.proofs.ending.finish.Goals as goal

pub returns-in-Ok-clause-whole : goal.returns-in-Ok-clause-whole
returns-in-Ok-clause-whole g c = λ ends.
    let told = gains_either c.tell-taken.result _ _ _ _ _ c.tell-taken.ensures.whole c.tell-taken.ensures.part in
    (rw c.as_slice-2.ensures.value at c.in-Ok.ensures.whole, rw (append-nil, c.as_slice.ensures.value) at told)

pub returns-in-Err-clause-part : goal.returns-in-Err-clause-part
returns-in-Err-clause-part g c = λ cut.
    let told = gains_either c.tell-taken.result _ _ _ _ _ c.tell-taken.ensures.whole c.tell-taken.ensures.part in (
      rw c.as_slice-2.ensures.value at c.in-Err.ensures.prefix,
      c.in-Err.ensures.fault_counted,
      record {
        between = g.E.Sink.written c.tell-taken.new.err;
        count = g.E.Sink.faults c.tell-taken.new.err;
        gains_first = rw (append-nil, c.as_slice.ensures.value) at told;
        gains_second = c.tell_error.ensures.gains;
        never_falls = c.tell-taken.ensures.never_falls;
      },
    )
