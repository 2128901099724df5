-- What the checker takes proves its verdict, shows the greatest share, and says so of persons.
use Rattle.std.proofs.Common.{Ok, ℕ}
use Rattle.rp_evidence.specs.declared.random.RandomPart.{RandomPart}
use Rattle.rp_evidence.specs.declared.random.RandomPart.TheVariants.{Mixture, Violated, Wide}
use Rattle.rp_patch.specs.Mixtures.{types_on}
use Rattle.rp_patch.specs.Patches.{IsPatchList, PatchList}
use Rattle.rp_patch.specs.RandomEvidence.{ProvesRandom, ShowsShare}
use Rattle.rp_patch.proofs.GreatestShares.{shows_share}
use Rattle.rp_patch.proofs.KindSound.{mixture_sound, violation_sound}
use Rattle.rp_patch.proofs.TypeKinds.{are_whole}
use Rattle.rp_check_mixture.specs.RandomWithin.{RandomFailsWithin}
use Rattle.rp_persons.specs.SaysRandom.{SaysOfChoices}
use Rattle.rp_persons.proofs.SaysOfItems.{evidence_says}

module _ (p : PatchList) (is : IsPatchList p) (steps : ℕ) where
  pub it_proves : (part : RandomPart) → RandomFailsWithin p p.total part steps (Ok tt) → ProvesRandom p p.total part
  it_proves (Mixture den parts) (same, (found, done)) = (same, mixture_sound (types_on p) den parts found)
  it_proves (Violated den parts weights) (same, ((numbers, (formed, (shape, (units, (enough, rest))))), done)) =
      (same, violation_sound (types_on p) (are_whole p is) den parts weights (numbers, (formed, (shape, (units, rest)))))
  it_proves (Wide step) found = tt

  pub it_shows : (part : RandomPart) → RandomFailsWithin p p.total part steps (Ok tt) → ShowsShare p part
  it_shows part taken = shows_share p is p.total part (it_proves part taken)

  pub it_says : (part : RandomPart) → RandomFailsWithin p p.total part steps (Ok tt) → SaysOfChoices p part
  it_says part taken = evidence_says p p.total part is (it_proves part taken)
