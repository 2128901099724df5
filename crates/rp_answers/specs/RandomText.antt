-- What `random` prints: the report, or the JSON, of a certificate with the one item on whether rational types make the
-- choices (McFadden and Richter 1990).
use Rattle.std.specs.Prelude.{◌≡◌, ℕ, Bool, List, Some, if◌then◌else◌, length}
use Rattle.rp_check.specs.RandomCheckVerdict.{IsRandomCheckVerdict}
use Rattle.rp_check.specs.declared.verdict.Verdict.TheVariants.{Accepted}
use Rattle.rp_evidence.specs.Certificates.{random_certificate}
use Rattle.rp_evidence.specs.declared.certificate.Certificate.{Certificate}
use Rattle.rp_evidence.specs.declared.certificate.Kind.TheVariants.{Random as RandomKind}
use Rattle.rp_evidence.specs.declared.random.RandomPart.{RandomPart}
use Rattle.rp_json.specs.CertificateValue.{certificate_text}
use Rattle.rp_patch.specs.RandomEvidence.{ProvesRandom}
use Rattle.rp_persons.specs.SaysRandom.{SaysOfChoices}
use Rattle.rp_random.specs.RandomVerdict.{IsRandomVerdict}
use Rattle.rp_agreement.specs.ReadBack.{IsReadBack}
use Rattle.rp_report.specs.RandomText.{random_report_text}
use Rattle.rp_answers.specs.Typed.{TypedPatches}

-- the one item proves its verdict, says so of persons and is as it is given, the checker accepts it, and the text of the
-- certificate is read back as the same
pub record IsRandomAnswer (choices : TypedPatches) (certificate : Certificate) : Type 0 where
  pub evidence : RandomPart
  pub item : certificate ≡ random_certificate choices.patches.total evidence
  pub proves : ProvesRandom choices.patches choices.patches.total evidence
  pub says : SaysOfChoices choices.patches evidence
  pub given : IsRandomVerdict choices.patches choices.types evidence
  pub accepted : IsRandomCheckVerdict choices.patches certificate.items Accepted
  pub read_back : IsReadBack RandomKind certificate

-- the text is that of such a certificate
abbrev pub IsRandomText : Bool → TypedPatches → List ℕ → Type 0
IsRandomText json choices text =
    (certificate : Certificate) × IsRandomAnswer choices certificate
    × (text ≡ (if json then certificate_text certificate
    else random_report_text choices.patches (Some (length choices.types)) certificate.items))
