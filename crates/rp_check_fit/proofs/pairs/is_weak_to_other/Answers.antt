use Rattle.std.proofs.Common.{Bool, true, false, not, refl}
use Rattle.std.specs.Prelude.{◌↔◌, IsTrue}
use Rattle.std.proofs.lemmas.Bool.{false≢true}
use Rattle.rp_check_fit.proofs.pairs.is_weak_to_other.Goals as goal

-- what is not so, by its truth value
negated : (b : Bool) (P : Type 0) → IsTrue b ↔ P → IsTrue (not b) ↔ (¬ P)
negated true P h = (λ e. absurd (false≢true e), λ none. absurd (none (h.0 refl)))
negated false P h = (λ e p. absurd (false≢true (h.1 p)), λ none. refl)

pub returns-then-not-is_weak : goal.returns-then-not-is_weak
returns-then-not-is_weak c = (λ h. absurd (false≢true h), λ p. absurd (cc (c.is_weak.ensures.1 p.0)))

pub returns : goal.returns
returns c =
    let differ = negated c.same_bundle.result _ c.same_bundle.ensures in
    (λ h. (c.is_weak.ensures.0 c.if-not-is_weak.false, differ.0 h), λ p. differ.1 p.1)
