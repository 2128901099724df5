-- Where nothing is found wrong on random choices within so many steps, nothing wrong can be found within them.
use Rattle.std.proofs.Common.{◌≡◌, ℕ, List, Ok, Err, inl, inr, refl, slice_index_or}
use Rattle.rp_check.specs.RandomCheckWithin.{IsRandomCheckVerdictWithin, ItemFailsOnPatchesWithin}
use Rattle.rp_check.specs.declared.verdict.Verdict.{Verdict}
use Rattle.rp_check.specs.declared.verdict.Verdict.TheVariants.{Accepted, Rejected}
use Rattle.rp_check_mixture.proofs.InParts.{without}
use Rattle.rp_check_mixture.proofs.OneFinding.{evidence_excludes}
use Rattle.rp_check_mixture.specs.RandomWithin.{RandomFailsWithin, RandomPartFailsWithin, ViolationFailsWithin}
use Rattle.rp_evidence.specs.declared.certificate.Item.{Item}
use Rattle.rp_evidence.specs.declared.certificate.Item.TheVariants.{Garp as GarpItem, Afriat as AfriatItem, Efficiency as EfficiencyItem, Homothetic as HomotheticItem, Quasi as QuasiItem, Demand as DemandItem, Welfare as WelfareItem, Random as RandomItem}
use Rattle.rp_evidence.specs.declared.failure.Failure.{Failure}
use Rattle.rp_evidence.specs.declared.random.RandomPart.{RandomPart}
use Rattle.rp_evidence.specs.declared.random.RandomPart.TheVariants.{Mixture, Violated, Wide}
use Rattle.rp_evidence.specs.declared.random.Share.{Share}
use Rattle.rp_patch.specs.KindFailure.{PartFailsOf, PartsFailOf}
use Rattle.rp_patch.specs.Mixtures.{types_on}
use Rattle.rp_patch.specs.Patches.{PatchList}
use Rattle.rp_patch.specs.RandomFailure.{ItemFailsOnPatches}

any_item : Item
any_item = RandomItem 0 (Wide 0)

module _ (p : PatchList) (steps : ℕ) (e : Failure) where
  one_part_excludes : (parts : List Share) (n : ℕ) → PartFailsOf (types_on p) parts n (Ok tt) → PartFailsOf (types_on p) parts n (Err e) → ⊥
  one_part_excludes parts n (formed, rest) (inl (not, is)) = not formed
  one_part_excludes parts n (formed, (some, rest)) (inr (h, inl (not, is))) = not some
  one_part_excludes parts n (formed, (some, (kind, rest))) (inr (h, inr (i, inl (not, is)))) = not kind
  one_part_excludes parts n (formed, (some, (kind, (ordered, done)))) (inr (h, inr (i, inr (j, inl (not, is))))) = not ordered
  one_part_excludes parts n (formed, (some, (kind, (ordered, done)))) (inr (h, inr (i, inr (j, inr none)))) = none.1

  parts_exclude : (parts : List Share) → PartsFailOf (types_on p) parts (Ok tt) → PartsFailOf (types_on p) parts (Err e) → ⊥
  parts_exclude parts holds (n, within, found, before) = one_part_excludes parts n (holds n within) found

  violation_excludes : (den : ℕ) (parts : List Share) (weights : List ℕ) → ViolationFailsWithin p den parts weights steps (Ok tt) → ViolationFailsWithin p den parts weights steps (Err e) → ⊥
  violation_excludes den parts weights (fit, rest) (inl (not, is)) = not fit
  violation_excludes den parts weights (fit, (kinds, rest)) (inr (h, inl found)) = parts_exclude parts kinds found
  violation_excludes den parts weights (fit, (kinds, (one_each, rest))) (inr (h, inr (i, inl (not, is)))) = not one_each
  violation_excludes den parts weights (fit, (kinds, (one_each, (units, rest)))) (inr (h, inr (i, inr (j, inl (n, within, (not, is), before))))) = not (units n within)
  violation_excludes den parts weights (fit, (kinds, (one_each, (units, (few, rest))))) (inr (h, inr (i, inr (j, inr (m, inl (not, is)))))) = not few
  violation_excludes den parts weights (fit, (kinds, (one_each, (units, (few, (heavy, rest)))))) (inr (h, inr (i, inr (j, inr (m, inr (l, inl (not, is))))))) = not heavy
  violation_excludes den parts weights (fit, (kinds, (one_each, (units, (few, (heavy, (equal, rest))))))) (inr (h, inr (i, inr (j, inr (m, inr (l, inr (o, inl (not, is)))))))) = not equal
  violation_excludes den parts weights (fit, (kinds, (one_each, (units, (few, (heavy, (equal, (less, done)))))))) (inr (h, inr (i, inr (j, inr (m, inr (l, inr (o, inr (q, inl (not, is))))))))) = not less
  violation_excludes den parts weights (fit, (kinds, (one_each, (units, (few, (heavy, (equal, (less, done)))))))) (inr (h, inr (i, inr (j, inr (m, inr (l, inr (o, inr (q, inr none)))))))) = none.1

  part_excludes : (part : RandomPart) → RandomPartFailsWithin p part steps (Ok tt) → RandomPartFailsWithin p part steps (Err e) → ⊥
  part_excludes (Mixture den parts) = evidence_excludes (types_on p) e (Mixture den parts)
  part_excludes (Violated den parts weights) = violation_excludes den parts weights
  part_excludes (Wide step) = λ holds found. found

  random_excludes : (total : ℕ) (part : RandomPart) → RandomFailsWithin p total part steps (Ok tt) → RandomFailsWithin p total part steps (Err e) → ⊥
  random_excludes total part (same, (holds, done)) (inl (not, is)) = not same
  random_excludes total part (same, (holds, done)) (inr (h, inl found)) = part_excludes part holds found
  random_excludes total part (same, (holds, done)) (inr (h, inr none)) = none.1

  item_excludes : (item : Item) → ItemFailsOnPatchesWithin p item steps (Ok tt) → ItemFailsOnPatchesWithin p item steps (Err e) → ⊥
  item_excludes (GarpItem verdict) = λ holds found. found
  item_excludes (AfriatItem part) = λ holds found. found
  item_excludes (EfficiencyItem evidence) = λ holds found. found
  item_excludes (HomotheticItem verdict) = λ holds found. found
  item_excludes (QuasiItem verdict) = λ holds found. found
  item_excludes (DemandItem prices m part) = λ holds found. found
  item_excludes (WelfareItem prices of part) = λ holds found. found
  item_excludes (RandomItem total part) = random_excludes total part

-- what is accepted within so many steps is not rejected within them
pub only_accepted_within : (p : PatchList) (items : List Item) (steps : ℕ) (verdict : Verdict)
    → IsRandomCheckVerdictWithin p items steps Accepted → IsRandomCheckVerdictWithin p items steps verdict → verdict ≡ Accepted
only_accepted_within p items steps Accepted holds is = refl
only_accepted_within p items steps (Rejected item reason place) holds (k, within, number, found, before) =
    absurd (item_excludes p steps (record { reason = reason; place = place }) (slice_index_or items k any_item) (holds k within any_item) (found any_item))

-- what passes within so many steps passes without a limit
pub item_passes_without_limit : (p : PatchList) (steps : ℕ) (item : Item) → ItemFailsOnPatchesWithin p item steps (Ok tt) → ItemFailsOnPatches p item (Ok tt)
item_passes_without_limit p steps (GarpItem verdict) passes = passes
item_passes_without_limit p steps (AfriatItem part) passes = passes
item_passes_without_limit p steps (EfficiencyItem evidence) passes = passes
item_passes_without_limit p steps (HomotheticItem verdict) passes = passes
item_passes_without_limit p steps (QuasiItem verdict) passes = passes
item_passes_without_limit p steps (DemandItem prices m part) passes = passes
item_passes_without_limit p steps (WelfareItem prices of part) passes = passes
item_passes_without_limit p steps (RandomItem total part) passes = without p total part steps passes
