-- When an item on random choices fails a check whose search for a light type has a limit (this program's own order of
-- clauses; types after McFadden and Richter 1990).
use Rattle.std.specs.Prelude.{◌≡◌, ◌<◌, ◌≤◌, ◌*◌, ℕ, List, [], ◌∷◌, length}
use Rattle.rp_evidence.specs.Clauses.{Finding, FirstUnless, InOrder, Unless}
use Rattle.rp_evidence.specs.declared.failure.Reason.TheVariants.{Dual, Least, NotLess, Number, Shape, Steps, Units}
use Rattle.rp_evidence.specs.declared.random.RandomPart.{RandomPart}
use Rattle.rp_evidence.specs.declared.random.RandomPart.TheVariants.{Mixture, Violated, Wide}
use Rattle.rp_evidence.specs.declared.random.Share.{Share}
use Rattle.rp_patch.specs.KindFailure.{HasFitNumbers, PartsFailOf}
use Rattle.rp_patch.specs.Kinds.{cells_weight, weight_of, weight_using}
use Rattle.rp_patch.specs.Mixtures.{types_on, units_weight}
use Rattle.rp_patch.specs.Patches.{PatchList, units_at}
use Rattle.rp_patch.specs.RandomFailure.{RandomPartFails}
use Rattle.rp_patch.specs.Types.{IsRationalType}
use Rattle.rp_check_mixture.specs.LightFronts.{HasMoreLightFrontsThan}

-- A violation, as without a limit, and that there are no more light fronts than steps.
abbrev pub ViolationFailsWithin : PatchList → ℕ → List Share → List ℕ → ℕ → Finding
ViolationFailsWithin p den parts weights steps = InOrder (
    Unless (HasFitNumbers den parts weights) Number 0
    ∷ PartsFailOf (types_on p) parts
    ∷ Unless (length weights ≡ length p.patches) Shape 0
    ∷ FirstUnless (length p.patches) (λ i. weight_using (types_on p) parts i ≤ den * units_at p i) Units
    ∷ Unless (¬ HasMoreLightFrontsThan p weights den steps) Steps 0
    ∷ Unless ((type : List ℕ) → IsRationalType p type → den ≤ cells_weight weights type) Dual 0
    ∷ Unless (weight_of parts ≡ units_weight p weights) Least 0
    ∷ Unless (weight_of parts < den * p.total) NotLess 0
    ∷ [])

-- What the evidence says, whatever its total. Only weights of the patches are searched for a type that is too light.
abbrev pub RandomPartFailsWithin : PatchList → RandomPart → ℕ → Finding
RandomPartFailsWithin p (Mixture den parts) steps = RandomPartFails p (Mixture den parts)
RandomPartFailsWithin p (Violated den parts weights) steps = ViolationFailsWithin p den parts weights steps
RandomPartFailsWithin p (Wide step) steps = RandomPartFails p (Wide step)

-- What is found wrong with an item: first a total that is not that of the patches.
abbrev pub RandomFailsWithin : PatchList → ℕ → RandomPart → ℕ → Finding
RandomFailsWithin p total part steps =
    InOrder (Unless (total ≡ p.total) Units 0 ∷ RandomPartFailsWithin p part steps ∷ [])
