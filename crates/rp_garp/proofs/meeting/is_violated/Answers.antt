use Rattle.std.proofs.Common.{below_more, sym, ◌∙◌, arith}
use Rattle.std.proofs.lemmas.Bool.{false≢true}
use Rattle.rp_garp.proofs.meeting.is_violated.Goals as goal

pub loop-t-preserved : goal.loop-t-preserved
loop-t-preserved g c =
    below_more _ _ c.loop-t.invariant (λ some. false≢true (sym c.if-is_violated_at.false ∙ c.is_violated_at.ensures.1 some))

pub returns : goal.returns
returns g c = (
  λ h. absurd (false≢true h),
  λ some. absurd (c.loop-t.invariant some.0 (omega (arith, some.1, c.loop-t-test.false, c.loop-t.auto.t-end, c.n-t-end.ensures.count)) some.2),
)
