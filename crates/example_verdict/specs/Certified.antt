-- What a table of prices and purchases is certified to say.
use Rattle.std.specs.Prelude.{◌≡◌, ℕ, All, List, [], ◌∷◌}
use Rattle.rp_table.specs.Tables.{Observations}
use Rattle.rp_evidence.specs.Certificates.{table_certificate}
use Rattle.rp_evidence.specs.Input.{input_of_table}
use Rattle.rp_evidence.specs.Proves.{Proves}
use Rattle.rp_evidence.specs.declared.afriat.AfriatPart.{AfriatPart}
use Rattle.rp_evidence.specs.declared.certificate.Certificate.{Certificate}
use Rattle.rp_evidence.specs.declared.certificate.Item.TheVariants.{Garp as GarpItem, Afriat as AfriatItem}
use Rattle.rp_evidence.specs.declared.certificate.Item.TheVariants.{Efficiency as EfficiencyItem}
use Rattle.rp_evidence.specs.declared.efficiency.Efficiency.{Efficiency}
use Rattle.rp_people.specs.Says.{Says}
use Rattle.rp_evidence.specs.declared.garp.Garp.{Garp}

-- The certificate of a table with these levels, or none: a verdict on the generalized axiom of revealed preference
-- (Varian 1982), one by Afriat's theorem (Afriat 1967) and one on the efficiency index (Afriat 1973).
abbrev pub certificate_of : List ℕ → Garp → AfriatPart → Efficiency → Certificate
certificate_of levels garp afriat efficiency =
    table_certificate levels (GarpItem garp ∷ AfriatItem afriat ∷ EfficiencyItem efficiency ∷ [])

-- The certificate has these three verdicts, and each proves what it says of the table, and says of consumers what that
-- kind of verdict says.
pub record IsCertifiedBy (table : Observations) (certificate : Certificate) : Type 0 where
  pub garp : Garp
  pub afriat : AfriatPart
  pub efficiency : Efficiency
  pub items : certificate ≡ certificate_of table.levels garp afriat efficiency
  pub proves : All (Proves (input_of_table table)) certificate.items
  pub says : All (Says (input_of_table table)) certificate.items
