-- When an item on random choices fails (this program's own order of clauses; types after McFadden and Richter 1990).
-- The clauses are about rational types as such, however they are found.
use Rattle.std.specs.Prelude.{◌≡◌, ℕ, [], ◌∷◌}
use Rattle.rp_evidence.specs.declared.certificate.Item.{Item}
use Rattle.rp_evidence.specs.declared.certificate.Item.TheVariants.{Garp as GarpItem, Afriat as AfriatItem}
use Rattle.rp_evidence.specs.declared.certificate.Item.TheVariants.{Efficiency as EfficiencyItem}
use Rattle.rp_evidence.specs.declared.certificate.Item.TheVariants.{Homothetic as HomotheticItem, Quasi as QuasiItem}
use Rattle.rp_evidence.specs.declared.certificate.Item.TheVariants.{Demand as DemandItem, Welfare as WelfareItem}
use Rattle.rp_evidence.specs.declared.certificate.Item.TheVariants.{Random as RandomItem}
use Rattle.rp_evidence.specs.declared.failure.Reason.TheVariants.{Units}
use Rattle.rp_evidence.specs.declared.random.RandomPart.{RandomPart}
use Rattle.rp_evidence.specs.Clauses.{Finding, InOrder, Unless}
use Rattle.rp_patch.specs.KindFailure.{EvidenceFailsOf}
use Rattle.rp_patch.specs.Mixtures.{types_on}
use Rattle.rp_patch.specs.Patches.{PatchList}

-- What the evidence says, whatever its total. What is withheld claims nothing.
abbrev pub RandomPartFails : PatchList → RandomPart → Finding
RandomPartFails p = EvidenceFailsOf (types_on p)

-- What is found wrong with an item: first a total that is not that of the patches.
abbrev pub RandomFails : PatchList → ℕ → RandomPart → Finding
RandomFails p total part = InOrder (Unless (total ≡ p.total) Units 0 ∷ RandomPartFails p part ∷ [])

-- A certificate on random choices has no item on a table.
abbrev pub ItemFailsOnPatches : PatchList → Item → Finding
ItemFailsOnPatches p (GarpItem verdict) = InOrder []
ItemFailsOnPatches p (AfriatItem part) = InOrder []
ItemFailsOnPatches p (EfficiencyItem evidence) = InOrder []
ItemFailsOnPatches p (HomotheticItem verdict) = InOrder []
ItemFailsOnPatches p (QuasiItem verdict) = InOrder []
ItemFailsOnPatches p (DemandItem prices m part) = InOrder []
ItemFailsOnPatches p (WelfareItem prices of part) = InOrder []
ItemFailsOnPatches p (RandomItem total part) = RandomFails p total part
