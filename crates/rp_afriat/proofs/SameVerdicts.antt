-- What is given for some costs is given for all that are the same between the observations; what is given where
-- observations have no levels is given at the level 1.
use Rattle.std.proofs.Common.{◌≡◌, ℕ, List, [], subst}
use Rattle.rp_evidence.specs.AfriatEvidence.{ProvesAfriat, ProvesOwnAfriat}
use Rattle.rp_evidence.specs.Garp.{HasNoViolation}
use Rattle.rp_evidence.specs.Preference.{AgreeBelow, StrictByLevels, WeakByLevels}
use Rattle.rp_evidence.specs.declared.afriat.AfriatPart.{AfriatPart}
use Rattle.rp_evidence.specs.declared.afriat.AfriatPart.TheVariants.{Model, NoModel, Wide}
use Rattle.rp_evidence.proofs.OwnAfriat.{evidence_without_levels}
use Rattle.rp_evidence.proofs.OwnLevels.{strict_by_levels_same, weak_by_levels_same}
use Rattle.rp_evidence.proofs.SameAfriat.{own_standard_same}
use Rattle.rp_evidence.proofs.SameCosts.{no_violation_same, preference_violation_same}
use Rattle.rp_afriat.specs.AfriatVerdict.{IsOwnAfriatVerdict}

module _ (n : ℕ) (levels : List ℕ) (c d : ℕ → ℕ → ℕ) (same : AgreeBelow n c d) where
  own_holds_same : HasNoViolation n (WeakByLevels levels c) (StrictByLevels levels c) → HasNoViolation n (WeakByLevels levels d) (StrictByLevels levels d)
  own_holds_same =
      no_violation_same n (WeakByLevels levels c) (StrictByLevels levels c) (WeakByLevels levels d) (StrictByLevels levels d)
      (weak_by_levels_same n levels c d same) (strict_by_levels_same n levels c d same)

  pub own_verdict_same : (part : AfriatPart) → IsOwnAfriatVerdict n levels c part → IsOwnAfriatVerdict n levels d part
  own_verdict_same (Model numbers) p = (own_holds_same p.0, p.1, p.2, (p.3.0, own_standard_same n levels c d same _ _ _ p.3.1))
  own_verdict_same (NoModel walk) p =
      preference_violation_same n (WeakByLevels levels c) (StrictByLevels levels c) (WeakByLevels levels d) (StrictByLevels levels d)
      (weak_by_levels_same n levels c d same) (strict_by_levels_same n levels c d same) walk p
  own_verdict_same (Wide at) p =
      (own_holds_same p.0, (p.1.0, p.1.1, p.1.2, own_standard_same n levels c d same _ _ _ p.1.3, p.1.4))

-- ---- without levels

module _ (n : ℕ) (levels : List ℕ) (c : ℕ → ℕ → ℕ) (none : levels ≡ []) where
  pub proves_at_one : (part : AfriatPart) → ProvesOwnAfriat n levels c part → ProvesAfriat n c part
  proves_at_one part proves = (evidence_without_levels n c part).0 (subst (λ l. ProvesOwnAfriat n l c part) none proves)
