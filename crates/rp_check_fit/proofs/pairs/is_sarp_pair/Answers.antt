use Rattle.std.proofs.lemmas.Bool.{false≢true}
use Rattle.rp_check_fit.proofs.pairs.is_sarp_pair.Goals as goal

pub returns-then-s-t : goal.returns-then-s-t
returns-then-s-t c = (λ h. absurd (false≢true h), λ p. absurd (p.0 c.if-s-t.true))

pub returns-then-not-reaches : goal.returns-then-not-reaches
returns-then-not-reaches c = (λ h. absurd (false≢true h), λ p. absurd (cc (c.reaches.ensures.1 p.1)))

pub returns : goal.returns
returns c = (
  λ h. let back = c.is_weak_to_other.ensures.0 h in (c.if-s-t.false, c.reaches.ensures.0 c.if-not-reaches.false, back.0, back.1),
  λ p. c.is_weak_to_other.ensures.1 (p.2, p.3),
)
