-- What `welfare` prints: the report, or the JSON, of a certificate with the verdict on the generalized axiom of
-- revealed preference, and then for each record of new prices the bounds on the money metric of each observation
-- (after Varian 1982), in order.
use Rattle.std.specs.Prelude.{◌≡◌, ℕ, Bool, ◌*◌, ◌/◌, ◌%◌, List}
use Rattle.rp_table.specs.PriceLists.{PriceList}
use Rattle.rp_table.specs.Rows.{row_of, rows_count}
use Rattle.rp_table.specs.Tables.{Observations}
use Rattle.rp_evidence.specs.Input.{TableInput, input_of_table}
use Rattle.rp_evidence.specs.Proves.{Proves}
use Rattle.rp_evidence.specs.declared.certificate.Certificate.{Certificate}
use Rattle.rp_evidence.specs.declared.certificate.Item.{Item}
use Rattle.rp_evidence.specs.declared.certificate.Kind.TheVariants.{Table}
use Rattle.rp_evidence.specs.declared.certificate.Item.TheVariants.{Welfare}
use Rattle.rp_evidence.specs.declared.demand.WelfarePart.{WelfarePart}
use Rattle.rp_evidence.specs.declared.garp.Garp.{Garp}
use Rattle.rp_people.specs.Says.{Says}
use Rattle.rp_welfare.specs.WelfareVerdict.{IsWelfareVerdict}
use Rattle.rp_json.specs.Denoted.{FitsKind}
use Rattle.rp_answers.specs.Accepted.{PassesAfter}
use Rattle.rp_answers.specs.GarpFirst.{IsGarpFirst}
use Rattle.rp_answers.specs.Printed.{Printed, as_stated}

-- the item on observation t at these prices: it proves its verdict, says of people what such a verdict says, is as it
-- is given under the verdict on the axiom, passes the checker, and can be read back
pub record IsWelfareItem (input : TableInput) (garp : Garp) (prices : List ℕ) (t : ℕ) (item : Item) : Type 0 where
  pub evidence : WelfarePart
  pub of_observation : item ≡ Welfare prices t evidence
  pub proves : Proves input item
  pub says : Says input item
  pub given : IsWelfareVerdict input prices t garp evidence
  pub passes : PassesAfter input garp item
  pub readable : FitsKind Table item

-- after the verdict on the axiom, for each record of the new prices, one item for each observation
abbrev pub IsWelfareCertificate : TableInput → PriceList → Certificate → Type 0
IsWelfareCertificate input new certificate =
    IsGarpFirst input (rows_count new.prices new.goods * input.n)
    (λ garp k. IsWelfareItem input garp (row_of new.prices new.goods (k / input.n)) (k % input.n)) certificate

-- the text is what an edition of the program prints of such a certificate
abbrev pub IsWelfareTextBy : Printed → Bool → Observations → PriceList → List ℕ → Type 0
IsWelfareTextBy printed json table new text =
    (certificate : Certificate) × IsWelfareCertificate (input_of_table table) new certificate
    × printed.of_certificate json table certificate text

-- the text is that of such a certificate as it stands
abbrev pub IsWelfareText : Bool → Observations → PriceList → List ℕ → Type 0
IsWelfareText = IsWelfareTextBy as_stated
