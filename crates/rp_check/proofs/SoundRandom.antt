-- An item on random choices that is found nothing wrong with proves its verdict (McFadden and Richter 1990): the weights of the
-- patches bound every partial mixture.
use Rattle.std.proofs.Common.{◌<◌, ℕ, List, All, Ok, length, slice_index_or}
use Rattle.rp_evidence.specs.Kinds.{IsOfKind}
use Rattle.rp_evidence.specs.declared.certificate.Item.{Item}
use Rattle.rp_evidence.specs.declared.certificate.Item.TheVariants.{Garp as GarpItem, Afriat as AfriatItem, Efficiency as EfficiencyItem, Homothetic as HomotheticItem, Quasi as QuasiItem, Demand as DemandItem, Welfare as WelfareItem, Random as RandomItem}
use Rattle.rp_evidence.specs.declared.certificate.Kind.TheVariants.{Random as RandomKind}
use Rattle.rp_evidence.specs.declared.random.RandomPart.{RandomPart}
use Rattle.rp_evidence.specs.declared.random.RandomPart.TheVariants.{Mixture, Violated, Wide}
use Rattle.rp_patch.specs.Mixtures.{types_on}
use Rattle.rp_patch.specs.Patches.{IsPatchList, PatchList}
use Rattle.rp_patch.specs.RandomEvidence.{ProvesOnPatches, ProvesRandom}
use Rattle.rp_patch.specs.RandomFailure.{ItemFailsOnPatches, RandomFails}
use Rattle.rp_check.specs.RandomCheckVerdict.{RandomItemFailsAt}
use Rattle.rp_check.specs.RandomCheckWithin.{ItemFailsOnPatchesWithin, RandomItemFailsWithinAt}
use Rattle.rp_check_mixture.proofs.InParts.{without}
use Rattle.rp_patch.proofs.KindSound.{mixture_sound, violation_sound}
use Rattle.rp_patch.proofs.TypeKinds.{are_whole}

module _ (p : PatchList) (is : IsPatchList p) where
  pub random_sound : (total : ℕ) (evidence : RandomPart) → RandomFails p total evidence (Ok tt) → ProvesRandom p total evidence
  random_sound total (Mixture den parts) (same, (found, done)) = (same, mixture_sound (types_on p) den parts found)
  random_sound total (Violated den parts weights) (same, (found, done)) = (same, violation_sound (types_on p) (are_whole p is) den parts weights found)
  random_sound total (Wide step) found = tt

  pub random_item_sound : (item : Item) → IsOfKind RandomKind item → ItemFailsOnPatches p item (Ok tt) → ProvesOnPatches p item
  random_item_sound (GarpItem evidence) kind found = absurd kind
  random_item_sound (AfriatItem evidence) kind found = absurd kind
  random_item_sound (EfficiencyItem evidence) kind found = absurd kind
  random_item_sound (HomotheticItem evidence) kind found = absurd kind
  random_item_sound (QuasiItem evidence) kind found = absurd kind
  random_item_sound (DemandItem prices m evidence) kind found = absurd kind
  random_item_sound (WelfareItem prices of evidence) kind found = absurd kind
  random_item_sound (RandomItem total evidence) kind found = random_sound total evidence found

  pub random_items_sound : (items : List Item) → All (IsOfKind RandomKind) items
      → ((k : ℕ) → k < length items → (other : Item) → ItemFailsOnPatches p (slice_index_or items k other) (Ok tt)) → All (ProvesOnPatches p) items
  random_items_sound items kinds found k other within = random_item_sound (slice_index_or items k other) (kinds k other within) (found k within other)

-- what fails no clause within a number of steps fails none without a limit
module _ (p : PatchList) (steps : ℕ) where
  item_without : (item : Item) → ItemFailsOnPatchesWithin p item steps (Ok tt) → ItemFailsOnPatches p item (Ok tt)
  item_without (GarpItem evidence) found = found
  item_without (AfriatItem evidence) found = found
  item_without (EfficiencyItem evidence) found = found
  item_without (HomotheticItem evidence) found = found
  item_without (QuasiItem evidence) found = found
  item_without (DemandItem prices m evidence) found = found
  item_without (WelfareItem prices of evidence) found = found
  item_without (RandomItem total evidence) found = without p total evidence steps found

  pub items_without : (items : List Item) → ((k : ℕ) → k < length items → RandomItemFailsWithinAt p items steps k (Ok tt))
      → (k : ℕ) → k < length items → RandomItemFailsAt p items k (Ok tt)
  items_without items found k within other = item_without (slice_index_or items k other) (found k within other)
