-- Certificates of the program, and what it is that the text of one is read back (this program's own format).
use Rattle.std.specs.Prelude.{◌≡◌, ◌⊎◌, ℕ, List, ◌∷◌, Result, Ok, Err}
use Rattle.rp_evidence.specs.Certificates.{table_certificate}
use Rattle.rp_evidence.specs.declared.certificate.Certificate.{Certificate}
use Rattle.rp_evidence.specs.declared.certificate.Item.{Item}
use Rattle.rp_evidence.specs.declared.certificate.Item.TheVariants.{Garp as GarpItem}
use Rattle.rp_evidence.specs.declared.certificate.Kind.{Kind}
use Rattle.rp_evidence.specs.declared.garp.Garp.{Garp}
use Rattle.rp_json.specs.CertificateValue.{certificate_text}
use Rattle.rp_json.specs.Denoted.{IsDenoted}
use Rattle.rp_json.specs.declared.fault.JsonFault.{JsonFault}
use Rattle.rp_json.specs.declared.fault.JsonFault.TheVariants.{NoMemory}

-- The certificate of a table that begins with this verdict on the axiom and goes on with these items.
abbrev pub certificate_from : List ℕ → Garp → List Item → Certificate
certificate_from levels verdict rest = table_certificate levels (GarpItem verdict ∷ rest)

-- The text of the certificate denotes it, and nothing else but for want of memory.
pub record IsReadBack (kind : Kind) (c : Certificate) : Type 0 where
  pub denotes : IsDenoted kind (certificate_text c) (Ok c)
  pub nothing_else : (result : Result Certificate JsonFault) → IsDenoted kind (certificate_text c) result
      → (result ≡ Ok c) ⊎ (result ≡ Err NoMemory)
