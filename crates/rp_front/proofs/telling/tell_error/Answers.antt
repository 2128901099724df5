use Rattle.std.proofs.Common.{inl, inr}
use Rattle.rp_front.proofs.GainsLemmas.{gains_then, part_hinted}
use Rattle.rp_front.proofs.telling.tell_error.Goals as goal
use Rattle.rp_front.proofs.telling.tell_error.Goals.{else-whole-via-then-whole+else-hints, else-whole-via-else-whole}

pub returns-then-hints-clause-gains : goal.returns-then-hints-clause-gains
returns-then-hints-clause-gains g c =
    rw c.if-hints.true (gains_then _ _ _ _ _ _ _ _ c.tell-whole.ensures.never_falls (c.tell-whole.ensures.whole c.if-whole.true) c.tell_with_hint.ensures.gains)

pub returns-else-whole-clause-gains : goal.returns-else-whole-clause-gains
returns-else-whole-clause-gains g c = elim c.else-whole.branch [
  | else-whole-via-then-whole+else-hints w ↦ rw w.if-hints.false (inl (c.tell-whole.ensures.whole w.if-whole.true))
  | else-whole-via-else-whole w ↦ let part = c.tell-whole.ensures.part w.if-whole.false in inr (part_hinted _ _ _ _ _ part.0, part.1)
]
