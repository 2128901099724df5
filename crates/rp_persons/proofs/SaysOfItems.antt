-- Proved items on random choices say of people what they say.
use Rattle.std.proofs.Common.{ℕ, ◌*◌, List}
use Rattle.std.specs.Prelude.{All, slice_index_or}
use Rattle.rp_evidence.specs.Demand.{FractionBundle}
use Rattle.rp_evidence.specs.declared.certificate.Item.{Item}
use Rattle.rp_evidence.specs.declared.certificate.Item.TheVariants.{Garp as GarpItem, Afriat as AfriatItem}
use Rattle.rp_evidence.specs.declared.certificate.Item.TheVariants.{Efficiency as EfficiencyItem}
use Rattle.rp_evidence.specs.declared.certificate.Item.TheVariants.{Homothetic as HomotheticItem, Quasi as QuasiItem}
use Rattle.rp_evidence.specs.declared.certificate.Item.TheVariants.{Demand as DemandItem, Welfare as WelfareItem}
use Rattle.rp_evidence.specs.declared.certificate.Item.TheVariants.{Random as RandomItem}
use Rattle.rp_evidence.specs.declared.random.RandomPart.{RandomPart}
use Rattle.rp_evidence.specs.declared.random.RandomPart.TheVariants.{Mixture, Violated, Wide}
use Rattle.rp_patch.specs.Kinds.{weight_of}
use Rattle.rp_patch.specs.Patches.{IsPatchList, PatchList}
use Rattle.rp_patch.specs.RandomEvidence.{ProvesOnPatches, ProvesRandom}
use Rattle.rp_patch.proofs.GreatestShares.{shows_share}
use Rattle.rp_persons.specs.OfAnyPersons.{SaysOfAny}
use Rattle.rp_persons.specs.SaysRandom.{SaysOfChoices, SaysOnPatches}
use Rattle.rp_persons.proofs.Populations.{any_make, any_make_at_most, mixtures_of_persons, shares_of_persons}

pub evidence_says : (p : PatchList) (total : ℕ) (part : RandomPart) → IsPatchList p → ProvesRandom p total part → SaysOfChoices p part
evidence_says p total (Mixture den parts) valid proves = λ input asked full are. (
  (mixtures_of_persons input asked p full are valid).0 (den, parts, proves.1),
  (shares_of_persons input asked p full are valid 1 1).0 (shows_share p valid total (Mixture den parts) proves),
)
evidence_says p total (Violated den parts weights) valid proves = λ input asked full are. (
  λ persons. proves.1.none ((mixtures_of_persons input asked p full are valid).1 persons),
  (shares_of_persons input asked p full are valid (weight_of parts) (den * p.total)).0 (shows_share p valid total (Violated den parts weights) proves),
)
evidence_says p total (Wide step) valid proves = λ input asked full are. tt

item_says : (p : PatchList) (item : Item) → IsPatchList p → ProvesOnPatches p item → SaysOnPatches p item
item_says p (GarpItem verdict) valid proves = tt
item_says p (AfriatItem part) valid proves = tt
item_says p (EfficiencyItem evidence) valid proves = tt
item_says p (HomotheticItem verdict) valid proves = tt
item_says p (QuasiItem verdict) valid proves = tt
item_says p (DemandItem prices m part) valid proves = tt
item_says p (WelfareItem prices of part) valid proves = tt
item_says p (RandomItem total part) valid proves = evidence_says p total part valid proves

pub items_say : (p : PatchList) (items : List Item) → IsPatchList p → All (ProvesOnPatches p) items → All (SaysOnPatches p) items
items_say p items valid all k d l = item_says p (slice_index_or items k d) valid (all k d l)

pub any_say : (p : PatchList) (total : ℕ) (part : RandomPart) → IsPatchList p → ProvesRandom p total part → (prefers : ℕ → FractionBundle → FractionBundle → Type 0) → SaysOfAny p prefers part
any_say p total (Mixture den parts) valid proves prefers = λ input asked full are. tt
any_say p total (Violated den parts weights) valid proves prefers = λ input asked full are. (
  λ d persons make. proves.1.none (any_make input asked p are valid prefers d persons make),
  any_make_at_most input asked p are valid prefers (weight_of parts) (den * p.total) (shows_share p valid total (Violated den parts weights) proves),
)
any_say p total (Wide step) valid proves prefers = λ input asked full are. tt
