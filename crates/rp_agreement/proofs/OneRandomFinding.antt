-- Where nothing is found wrong on random choices, nothing wrong can be found.
use Rattle.std.proofs.Common.{◌≡◌, ℕ, List, Ok, Err, inl, inr, refl, slice_index_or}
use Rattle.rp_check.specs.RandomCheckVerdict.{IsRandomCheckVerdict}
use Rattle.rp_check.specs.declared.verdict.Verdict.{Verdict}
use Rattle.rp_check.specs.declared.verdict.Verdict.TheVariants.{Accepted, Rejected}
use Rattle.rp_evidence.specs.declared.certificate.Item.{Item}
use Rattle.rp_evidence.specs.declared.certificate.Item.TheVariants.{Garp as GarpItem, Afriat as AfriatItem, Efficiency as EfficiencyItem, Homothetic as HomotheticItem, Quasi as QuasiItem, Demand as DemandItem, Welfare as WelfareItem, Random as RandomItem}
use Rattle.rp_evidence.specs.declared.failure.Failure.{Failure}
use Rattle.rp_evidence.specs.declared.random.RandomPart.{RandomPart}
use Rattle.rp_evidence.specs.declared.random.RandomPart.TheVariants.{Wide}
use Rattle.rp_check_mixture.proofs.OneFinding.{evidence_excludes}
use Rattle.rp_patch.specs.Mixtures.{types_on}
use Rattle.rp_patch.specs.Patches.{PatchList}
use Rattle.rp_patch.specs.RandomFailure.{ItemFailsOnPatches, RandomFails}

any_item : Item
any_item = RandomItem 0 (Wide 0)

module _ (p : PatchList) (e : Failure) where
  random_excludes : (total : ℕ) (part : RandomPart) → RandomFails p total part (Ok tt) → RandomFails p total part (Err e) → ⊥
  random_excludes total part (same, (holds, done)) (inl (not, is)) = not same
  random_excludes total part (same, (holds, done)) (inr (h, inl found)) = evidence_excludes (types_on p) e part holds found
  random_excludes total part (same, (holds, done)) (inr (h, inr none)) = none.1

  item_excludes : (item : Item) → ItemFailsOnPatches p item (Ok tt) → ItemFailsOnPatches p item (Err e) → ⊥
  item_excludes (GarpItem verdict) = λ holds found. found
  item_excludes (AfriatItem part) = λ holds found. found
  item_excludes (EfficiencyItem evidence) = λ holds found. found
  item_excludes (HomotheticItem verdict) = λ holds found. found
  item_excludes (QuasiItem verdict) = λ holds found. found
  item_excludes (DemandItem prices m part) = λ holds found. found
  item_excludes (WelfareItem prices of part) = λ holds found. found
  item_excludes (RandomItem total part) = random_excludes total part

-- what is accepted is not rejected
pub only_accepted_on_patches : (p : PatchList) (items : List Item) (verdict : Verdict) → IsRandomCheckVerdict p items Accepted → IsRandomCheckVerdict p items verdict → verdict ≡ Accepted
only_accepted_on_patches p items Accepted holds is = refl
only_accepted_on_patches p items (Rejected item reason place) holds (k, within, number, found, before) =
    absurd (item_excludes p (record { reason = reason; place = place }) (slice_index_or items k any_item) (holds k within any_item) (found any_item))
