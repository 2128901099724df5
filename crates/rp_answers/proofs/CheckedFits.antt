-- What the checker takes on random choices fits, and its certificate can be read back, however it was found.
use Rattle.std.proofs.Common.{◌≡◌, ℕ, List, [], Ok, All, Contains, inl, refl, get_or, arith}
use Rattle.std.proofs.lemmas.List.{get_or_default}
use Rattle.std.proofs.lemmas.List.Elements.{Contains-get_or}
use Rattle.rp_check_mixture.specs.RandomWithin.{RandomFailsWithin}
use Rattle.rp_evidence.specs.Certificates.{random_certificate}
use Rattle.rp_evidence.specs.declared.certificate.Item.TheVariants.{Random as RandomItem}
use Rattle.rp_evidence.specs.declared.certificate.Kind.TheVariants.{Random as RandomKind}
use Rattle.rp_evidence.specs.declared.random.RandomPart.{RandomPart}
use Rattle.rp_evidence.specs.declared.random.RandomPart.TheVariants.{Mixture, Violated, Wide}
use Rattle.rp_evidence.specs.declared.random.Share.{Share}
use Rattle.rp_farkas.specs.Limits.{FitsEvidence}
use Rattle.rp_json.specs.Denoted.{FitsKind, IsReadable}
use Rattle.rp_json_entries.specs.Reading.{FitObservations, FitsLong}
use Rattle.rp_json_entries.proofs.ListLemmas.{all_more, all_none}
use Rattle.rp_json_programs.specs.Limits.{FitsRandom, FitsShare}
use Rattle.rp_patch.specs.KindFailure.{HasFitNumbers}
use Rattle.rp_patch.specs.Patches.{IsPatchList, PatchList}
use Rattle.rp_patch.specs.RandomEvidence.{ProvesRandom}
use Rattle.rp_patch.specs.Types.{IsRationalType, IsType}

-- the patches of a type, and the units of each budget
patches_fit : (p : PatchList) (type : List ℕ) → IsPatchList p → IsType p type → FitObservations type
patches_fit p type valid is k d within =
    omega (arith, valid.few_patches, is.patch k (omega (arith, within, is.one_each)), get_or_default type k d 0 within)

total_fits : (p : PatchList) → IsPatchList p → FitsLong p.total
total_fits p valid = omega (arith, valid.few_units)

-- a number of evidence is one of 64 bits
longs_fit : (numbers : List ℕ) → All FitsEvidence numbers → All FitsLong numbers
longs_fit numbers fit k d within = omega (arith, fit k d within)

module _ (p : PatchList) (valid : IsPatchList p) (den : ℕ) (parts : List Share) (weights : List ℕ) (fit : HasFitNumbers den parts weights) where
  den_is_long : FitsLong den
  den_is_long = omega (arith, fit.den_fits)

  parts_are_long : ((part : Share) → Contains parts part → IsRationalType p part.patches) → All FitsShare parts
  parts_are_long rational k d within = (
    patches_fit p (get_or parts k d).patches valid (rational (get_or parts k d) (Contains-get_or parts k d within)).0,
    omega (arith, fit.parts_fit k d within),
  )

module _ (p : PatchList) (valid : IsPatchList p) (steps : ℕ) where
  pub checked_fits : (part : RandomPart) → ProvesRandom p p.total part → RandomFailsWithin p p.total part steps (Ok tt) → ((step : ℕ) → part ≡ Wide step → FitsLong step) → FitsRandom p.total part
  checked_fits (Mixture den parts) (total, mixture) (same, ((fit, rest), done)) long = (
    den_is_long p valid den parts [] fit,
    parts_are_long p valid den parts [] fit mixture.kinds,
    total_fits p valid,
  )
  checked_fits (Violated den parts weights) (total, none) (same, ((fit, rest), done)) long = (
    den_is_long p valid den parts weights fit,
    parts_are_long p valid den parts weights fit none.partial.kinds,
    total_fits p valid,
    longs_fit weights fit.weights_fit,
  )
  checked_fits (Wide step) proves passes long = (total_fits p valid, long step refl)

  pub checked_readable : (part : RandomPart) → ProvesRandom p p.total part → RandomFailsWithin p p.total part steps (Ok tt) → ((step : ℕ) → part ≡ Wide step → FitsLong step)
      → IsReadable RandomKind (random_certificate p.total part)
  checked_readable part proves passes long = record {
    of_kind = refl;
    levels = inl (refl, refl);
    items = all_more (FitsKind RandomKind) (RandomItem p.total part) [] (tt, checked_fits part proves passes long) (all_none (FitsKind RandomKind));
  }
