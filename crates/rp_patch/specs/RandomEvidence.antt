-- What evidence on random choices has to be to prove its verdict (McFadden and Richter 1990; the weights of the
-- patches are the dual side of the program of random utility).
use Rattle.std.specs.Prelude.{◌≡◌, ◌*◌, ℕ, List}
use Rattle.rp_evidence.specs.declared.certificate.Item.{Item}
use Rattle.rp_evidence.specs.declared.certificate.Item.TheVariants.{Garp as GarpItem, Afriat as AfriatItem}
use Rattle.rp_evidence.specs.declared.certificate.Item.TheVariants.{Efficiency as EfficiencyItem}
use Rattle.rp_evidence.specs.declared.certificate.Item.TheVariants.{Homothetic as HomotheticItem, Quasi as QuasiItem}
use Rattle.rp_evidence.specs.declared.certificate.Item.TheVariants.{Demand as DemandItem, Welfare as WelfareItem}
use Rattle.rp_evidence.specs.declared.certificate.Item.TheVariants.{Random as RandomItem}
use Rattle.rp_evidence.specs.declared.random.RandomPart.{RandomPart}
use Rattle.rp_evidence.specs.declared.random.RandomPart.TheVariants.{Mixture, Violated, Wide}
use Rattle.rp_evidence.specs.declared.random.Share.{Share}
use Rattle.rp_patch.specs.Kinds.{ProvesNoMixtureOf, weight_of}
use Rattle.rp_patch.specs.Mixtures.{IsGreatestShare, IsMixture, types_on}
use Rattle.rp_patch.specs.Patches.{PatchList}

-- The evidence of a violation: no mixture makes the choices; the parts are a partial mixture, and none has a greater
-- share; and every rational type has patches that together weigh at least the denominator.
abbrev pub ProvesNoMixture : PatchList → ℕ → List Share → List ℕ → Type 0
ProvesNoMixture p = ProvesNoMixtureOf (types_on p)

-- Evidence proves its verdict on the units of these patches: the parts are a mixture; or there is none. What is
-- withheld has no verdict.
abbrev pub ProvesRandom : PatchList → ℕ → RandomPart → Type 0
ProvesRandom p total (Mixture den parts) = (total ≡ p.total) × IsMixture p den parts
ProvesRandom p total (Violated den parts weights) = (total ≡ p.total) × ProvesNoMixture p den parts weights
ProvesRandom p total (Wide step) = Unit {0}

-- The share that evidence shows is the greatest rational share: all of the total, or what the parts have of it. What is
-- withheld shows none.
abbrev pub ShowsShare : PatchList → RandomPart → Type 0
ShowsShare p (Mixture den parts) = IsGreatestShare p 1 1
ShowsShare p (Violated den parts weights) = IsGreatestShare p (weight_of parts) (den * p.total)
ShowsShare p (Wide step) = Unit {0}

-- An item proves its verdict on random choices. An item on a table proves nothing of them.
abbrev pub ProvesOnPatches : PatchList → Item → Type 0
ProvesOnPatches p (GarpItem verdict) = ⊥
ProvesOnPatches p (AfriatItem part) = ⊥
ProvesOnPatches p (EfficiencyItem evidence) = ⊥
ProvesOnPatches p (HomotheticItem verdict) = ⊥
ProvesOnPatches p (QuasiItem verdict) = ⊥
ProvesOnPatches p (DemandItem prices m part) = ⊥
ProvesOnPatches p (WelfareItem prices of part) = ⊥
ProvesOnPatches p (RandomItem total part) = ProvesRandom p total part
