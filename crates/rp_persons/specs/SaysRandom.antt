-- What an item on random choices says of people (McFadden and Richter 1990; Kitamura and Stoye 2018). What is withheld
-- says nothing.
use Rattle.std.specs.Prelude.{ℕ, ◌*◌, Option}
use Rattle.rp_evidence.specs.declared.certificate.Item.{Item}
use Rattle.rp_evidence.specs.declared.certificate.Item.TheVariants.{Garp as GarpItem, Afriat as AfriatItem}
use Rattle.rp_evidence.specs.declared.certificate.Item.TheVariants.{Efficiency as EfficiencyItem}
use Rattle.rp_evidence.specs.declared.certificate.Item.TheVariants.{Homothetic as HomotheticItem, Quasi as QuasiItem}
use Rattle.rp_evidence.specs.declared.certificate.Item.TheVariants.{Demand as DemandItem, Welfare as WelfareItem}
use Rattle.rp_evidence.specs.declared.certificate.Item.TheVariants.{Random as RandomItem}
use Rattle.rp_evidence.specs.declared.random.RandomPart.{RandomPart}
use Rattle.rp_evidence.specs.declared.random.RandomPart.TheVariants.{Mixture, Violated, Wide}
use Rattle.rp_patch.specs.Choices.{RandomInput}
use Rattle.rp_patch.specs.Patches.{PatchList}
use Rattle.rp_patch.specs.Units.{ArePatchesOf}
use Rattle.rp_patch.specs.Kinds.{weight_of}
use Rattle.rp_persons.specs.PersonMixtures.{IsFullRandomInput, IsGreatestShareOfPersons, SomePersonsMakeChoices}
use Rattle.rp_persons.specs.PersonMixtures.{SomeWithUtilitiesMakeChoices}

-- A mixture: finitely many persons with utilities make the choices. A violation: no persons do, however many there are,
-- and the share that is shown is the greatest that persons make.
abbrev pub SaysRandom : RandomInput → PatchList → RandomPart → Type 0
SaysRandom input p (Mixture den parts) = SomeWithUtilitiesMakeChoices input p × IsGreatestShareOfPersons input p 1 1
SaysRandom input p (Violated den parts weights) = (¬ SomePersonsMakeChoices input p)
    × IsGreatestShareOfPersons input p (weight_of parts) (den * p.total)
SaysRandom input p (Wide step) = Unit {0}

-- It says so of all choices that have these patches.
abbrev pub SaysOfChoices : PatchList → RandomPart → Type 0
SaysOfChoices p part = (input : RandomInput) (asked : Option ℕ) → IsFullRandomInput input → ArePatchesOf input asked p
    → SaysRandom input p part

-- The same of an item. An item on a table says nothing of random choices.
abbrev pub SaysOnPatches : PatchList → Item → Type 0
SaysOnPatches p (GarpItem verdict) = Unit {0}
SaysOnPatches p (AfriatItem part) = Unit {0}
SaysOnPatches p (EfficiencyItem evidence) = Unit {0}
SaysOnPatches p (HomotheticItem verdict) = Unit {0}
SaysOnPatches p (QuasiItem verdict) = Unit {0}
SaysOnPatches p (DemandItem prices m part) = Unit {0}
SaysOnPatches p (WelfareItem prices of part) = Unit {0}
SaysOnPatches p (RandomItem total part) = SaysOfChoices p part
