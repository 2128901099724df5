-- A check that answers whether nothing is found wrong.
use Rattle.std.proofs.Common.{◌≡◌, true, Result, Ok, Err, refl}
use Rattle.std.specs.Result.{is_ok}
use Rattle.rp_find_mixture.specs.MixtureVerdict.{ProvesMixture}
use Rattle.rp_evidence.specs.declared.failure.Failure.{Failure}
use Rattle.rp_evidence.specs.declared.random.RandomPart.{RandomPart}
use Rattle.rp_evidence.specs.declared.random.RandomPart.TheVariants.{Mixture, Violated, Wide}
use Rattle.rp_check_mixture.proofs.OneFinding.{evidence_excludes}
use Rattle.rp_patch.specs.KindFailure.{EvidenceFailsOf}
use Rattle.rp_patch.specs.Kinds.{AreWhole, Kinds}
use Rattle.rp_patch.proofs.KindSound.{mixture_sound, violation_sound}

module _ (k : Kinds) (part : RandomPart) where
  pub passes : (r : Result (Unit {0}) Failure) → EvidenceFailsOf k part r → is_ok r ≡ true → EvidenceFailsOf k part (Ok tt)
  passes (Ok done) found h = found
  passes (Err e) found h = absurd cc

  pub is_passed : (r : Result (Unit {0}) Failure) → EvidenceFailsOf k part r → EvidenceFailsOf k part (Ok tt) → is_ok r ≡ true
  is_passed (Ok done) found holds = refl
  is_passed (Err e) found holds = absurd (evidence_excludes k e part holds found)

pub sound : (k : Kinds) → AreWhole k → (part : RandomPart) → EvidenceFailsOf k part (Ok tt) → ProvesMixture k part
sound k is (Mixture den parts) found = mixture_sound k den parts found
sound k is (Violated den parts weights) found = violation_sound k is den parts weights found
sound k is (Wide step) found = tt
