-- What `analyse` and `certify` print: the report, or the JSON, of a certificate that has one item for each test, in a
-- fixed order, each with evidence that proves its verdict.
use Rattle.std.specs.Prelude.{◌≡◌, ℕ, All, Bool, List, [], ◌∷◌}
use Rattle.rp_table.specs.Tables.{Observations}
use Rattle.rp_evidence.specs.Certificates.{table_certificate}
use Rattle.rp_evidence.specs.Input.{TableInput, input_of_table}
use Rattle.rp_evidence.specs.Proves.{Proves}
use Rattle.rp_evidence.specs.declared.certificate.Certificate.{Certificate}
use Rattle.rp_evidence.specs.declared.afriat.AfriatPart.{AfriatPart}
use Rattle.rp_evidence.specs.declared.efficiency.Efficiency.{Efficiency}
use Rattle.rp_evidence.specs.declared.garp.Garp.{Garp}
use Rattle.rp_evidence.specs.declared.certificate.Item.{Item}
use Rattle.rp_evidence.specs.declared.certificate.Item.TheVariants.{Garp as GarpItem, Afriat as AfriatItem}
use Rattle.rp_evidence.specs.declared.certificate.Item.TheVariants.{Efficiency as EfficiencyItem}
use Rattle.rp_evidence.specs.declared.certificate.Item.TheVariants.{Homothetic as HomotheticItem, Quasi as QuasiItem}
use Rattle.rp_evidence.specs.declared.homothetic.Homothetic.{Homothetic}
use Rattle.rp_evidence.specs.declared.quasilinear.Quasi.{Quasi}
use Rattle.rp_evidence.specs.declared.certificate.Kind.TheVariants.{Table}
use Rattle.rp_afriat.specs.AfriatVerdict.{IsOwnAfriatVerdict}
use Rattle.rp_effic.specs.EfficiencyVerdict.{IsEfficiencyVerdict}
use Rattle.rp_garp.specs.GarpVerdict.{IsOwnGarpVerdict}
use Rattle.rp_homo.specs.HomotheticVerdict.{IsHomotheticVerdict}
use Rattle.rp_quasi.specs.QuasilinearVerdict.{IsQuasilinearVerdict}
use Rattle.rp_people.specs.Says.{Says}
use Rattle.rp_agreement.specs.ReadBack.{IsReadBack}
use Rattle.rp_answers.specs.Accepted.{IsAcceptedOn}
use Rattle.rp_answers.specs.Printed.{Printed, as_stated}

-- these five items, in order
abbrev pub five_items : Garp → AfriatPart → Efficiency → Homothetic → Quasi → List Item
five_items garp afriat efficiency homothetic quasilinear =
    GarpItem garp ∷ AfriatItem afriat ∷ EfficiencyItem efficiency ∷ HomotheticItem homothetic
    ∷ QuasiItem quasilinear ∷ []

-- the certificate of a table with these levels, or none, and these five items
abbrev pub certificate_of : List ℕ → Garp → AfriatPart → Efficiency → Homothetic → Quasi → Certificate
certificate_of levels garp afriat efficiency homothetic quasilinear =
    table_certificate levels (five_items garp afriat efficiency homothetic quasilinear)

-- the certificate of what a table says: the verdicts on the generalized axiom of revealed preference (Varian 1982), by
-- Afriat's theorem (Afriat 1967), on the efficiency index (Afriat 1973), of the homothetic test (Varian 1983) and of
-- the quasilinear test, as they are given, the first two by the levels of the observations' own, where they have them;
-- the checker accepts it, its JSON is read back as it, and each item says of people what such a verdict says
pub record IsAnalysis (input : TableInput) (certificate : Certificate) : Type 0 where
  pub garp : Garp
  pub afriat : AfriatPart
  pub efficiency : Efficiency
  pub homothetic : Homothetic
  pub quasilinear : Quasi
  pub items : certificate ≡ certificate_of input.levels garp afriat efficiency homothetic quasilinear
  pub garp_proves : Proves input (GarpItem garp)
  pub garp_given : IsOwnGarpVerdict input.n input.levels input.cost garp
  pub afriat_proves : Proves input (AfriatItem afriat)
  pub afriat_given : IsOwnAfriatVerdict input.n input.levels input.cost afriat
  pub efficiency_proves : Proves input (EfficiencyItem efficiency)
  pub efficiency_given : IsEfficiencyVerdict input.n input.cost efficiency
  pub homothetic_proves : Proves input (HomotheticItem homothetic)
  pub homothetic_given : IsHomotheticVerdict input.n input.cost homothetic
  pub quasilinear_proves : Proves input (QuasiItem quasilinear)
  pub quasilinear_given : IsQuasilinearVerdict input.n input.cost quasilinear
  pub says : All (Says input) (five_items garp afriat efficiency homothetic quasilinear)
  pub accepted : IsAcceptedOn input certificate
  pub read_back : IsReadBack Table certificate

-- the text is what an edition of the program prints of such a certificate
abbrev pub IsAnalysisTextBy : Printed → Bool → Observations → List ℕ → Type 0
IsAnalysisTextBy printed json table text =
    (certificate : Certificate) × IsAnalysis (input_of_table table) certificate
    × printed.of_certificate json table certificate text

-- the text is that of such a certificate as it stands
abbrev pub IsAnalysisText : Bool → Observations → List ℕ → Type 0
IsAnalysisText = IsAnalysisTextBy as_stated
