-- What `random` prints of choices whose rational types are not listed: the report, or the JSON, of a certificate with the
-- one item on whether rational types make the choices (McFadden and Richter 1990).
use Rattle.std.specs.Prelude.{◌≡◌, Bool, List, ℕ, None, if◌then◌else◌}
use Rattle.rp_check.specs.RandomCheckWithin.{IsRandomCheckVerdictWithin}
use Rattle.rp_check.specs.declared.verdict.Verdict.TheVariants.{Accepted}
use Rattle.rp_evidence.specs.Certificates.{random_certificate}
use Rattle.rp_evidence.specs.declared.certificate.Certificate.{Certificate}
use Rattle.rp_evidence.specs.declared.certificate.Kind.TheVariants.{Random as RandomKind}
use Rattle.rp_evidence.specs.declared.random.RandomPart.{RandomPart}
use Rattle.rp_generated.specs.Steps.{IsWithheldAfter, WithheldAt}
use Rattle.rp_json.specs.CertificateValue.{certificate_text}
use Rattle.rp_limits.specs.declared.generated.TheConstants.{STEPS}
use Rattle.rp_patch.specs.Patches.{PatchList}
use Rattle.rp_patch.specs.RandomEvidence.{ProvesRandom, ShowsShare}
use Rattle.rp_persons.specs.SaysRandom.{SaysOfChoices}
use Rattle.rp_agreement.specs.ReadBack.{IsReadBack}
use Rattle.rp_report.specs.RandomText.{random_report_text}

-- the one item proves its verdict over all rational types, shows the greatest share and says so of persons, the checker
-- accepts it within its steps, and the text of the certificate is read back as the same. Where it is withheld, the steps
-- that are told were made by searches, and they are as many as may be made, or there is no rational type, or the rounds
-- over the types that were found ended without evidence. How a mixture is found is not stated here
pub record IsGeneratedAnswer (most : ℕ) (p : PatchList) (certificate : Certificate) : Type 0 where
  pub evidence : RandomPart
  pub item : certificate ≡ random_certificate p.total evidence
  pub proves : ProvesRandom p p.total evidence
  pub share : ShowsShare p evidence
  pub says : SaysOfChoices p evidence
  pub accepted : IsRandomCheckVerdictWithin p certificate.items STEPS Accepted
  pub read_back : IsReadBack RandomKind certificate
  pub steps : WithheldAt evidence (IsWithheldAfter p most)

-- the text is that of such a certificate
abbrev pub IsGeneratedText : Bool → ℕ → PatchList → List ℕ → Type 0
IsGeneratedText json most p text =
    (certificate : Certificate) × IsGeneratedAnswer most p certificate
    × (text ≡ (if json then certificate_text certificate else random_report_text p None certificate.items))
