use Rattle.std.proofs.lemmas.Bool.{false≢true}
use Rattle.rp_check_fit.proofs.pairs.is_warp_pair.Goals as goal

pub returns-then-s-t : goal.returns-then-s-t
returns-then-s-t c = (λ h. absurd (false≢true h), λ p. absurd (p.0 c.if-s-t.true))

pub returns-then-not-is_weak : goal.returns-then-not-is_weak
returns-then-not-is_weak c = (λ h. absurd (false≢true h), λ p. absurd (cc (c.is_weak.ensures.1 p.1)))

pub returns : goal.returns
returns c = (
  λ h. let back = c.is_weak_to_other.ensures.0 h in (c.if-s-t.false, c.is_weak.ensures.0 c.if-not-is_weak.false, back.0, back.1),
  λ p. c.is_weak_to_other.ensures.1 (p.2, p.3),
)
