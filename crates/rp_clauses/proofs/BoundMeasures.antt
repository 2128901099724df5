-- A bound holds by each of two measures that are one at every price vector.
use Rattle.std.proofs.Common.{◌≡◌, ◌↔◌, ℕ, slice_index, subst, sym}
use Rattle.rp_evidence.specs.BoundEvidence.{BoundHolds}
use Rattle.rp_evidence.specs.declared.demand.Bound.{Bound}
use Rattle.rp_evidence.specs.declared.demand.Bound.TheVariants.{Shown, Wide}
use Rattle.rp_farkas.specs.LinearProgram.{LinearProgram}
use Rattle.rp_num.specs.Fraction.{IsLowestTerms}

pub holds_alike : (p : LinearProgram) (m m' : (ℕ → ℕ) → ℕ) → ((x : ℕ → ℕ) → m x ≡ m' x) → (bound : Bound) → BoundHolds p m bound ↔ BoundHolds p m' bound
holds_alike p m m' same (Shown value pair) = (
  (λ h. (h.0, subst (λ (n : ℕ). IsLowestTerms n pair.den value) (same (slice_index pair.x)) h.1)),
  (λ h. (h.0, subst (λ (n : ℕ). IsLowestTerms n pair.den value) (sym (same (slice_index pair.x))) h.1)),
)
holds_alike p m m' same (Wide step) = ((λ h. h), (λ h. h))
