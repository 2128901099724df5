-- What `demand` prints: the report, or the JSON, of a certificate with the verdict on the generalized axiom of revealed
-- preference, and then demand at each record of new prices (Varian 1982), in order.
use Rattle.std.specs.Prelude.{◌≡◌, ℕ, Bool, List, length, slice_index}
use Rattle.rp_table.specs.PriceLists.{PriceList}
use Rattle.rp_table.specs.Rows.{row_of, rows_count}
use Rattle.rp_table.specs.Tables.{Observations, goods_of}
use Rattle.rp_evidence.specs.DemandEvidence.{budget_of}
use Rattle.rp_evidence.specs.Input.{TableInput, input_of_table}
use Rattle.rp_evidence.specs.Proves.{Proves}
use Rattle.rp_evidence.specs.declared.certificate.Certificate.{Certificate}
use Rattle.rp_evidence.specs.declared.certificate.Item.{Item}
use Rattle.rp_evidence.specs.declared.certificate.Kind.TheVariants.{Table}
use Rattle.rp_evidence.specs.declared.certificate.Item.TheVariants.{Demand}
use Rattle.rp_evidence.specs.declared.demand.DemandPart.{DemandPart}
use Rattle.rp_evidence.specs.declared.garp.Garp.{Garp}
use Rattle.rp_people.specs.Says.{HasPricesAboveZero, Says}
use Rattle.rp_support.specs.DemandVerdict.{IsDemandVerdict}
use Rattle.rp_json.specs.Denoted.{FitsKind}
use Rattle.rp_answers.specs.Accepted.{PassesAfter}
use Rattle.rp_answers.specs.GarpFirst.{IsGarpFirst}
use Rattle.rp_answers.specs.Printed.{Printed, as_stated}

-- the item on the budget at these prices, of which none is 0, with m: it proves its verdict, says of people what such a
-- verdict says, is as it is given under the verdict on the axiom, passes the checker, and can be read back
pub record IsDemandItem (input : TableInput) (garp : Garp) (prices : List ℕ) (m : ℕ) (item : Item) : Type 0 where
  pub evidence : DemandPart
  pub on_budget : item ≡ Demand prices m evidence
  pub proves : Proves input item
  pub says : Says input item
  pub priced : HasPricesAboveZero input item
  pub given : IsDemandVerdict input (budget_of prices m) garp evidence
  pub passes : PassesAfter input garp item
  pub readable : FitsKind Table item

-- after the verdict on the axiom one item for each record of the new prices
abbrev pub IsDemandCertificate : TableInput → PriceList → Certificate → Type 0
IsDemandCertificate input new certificate =
    IsGarpFirst input (rows_count new.prices new.goods)
    (λ garp i. IsDemandItem input garp (row_of new.prices new.goods i) (slice_index new.m i)) certificate

-- the text is what an edition of the program prints of such a certificate
abbrev pub IsDemandTextBy : Printed → Bool → Observations → PriceList → List ℕ → Type 0
IsDemandTextBy printed json table new text =
    (certificate : Certificate) × IsDemandCertificate (input_of_table table) new certificate
    × printed.of_certificate json table certificate text

-- the text is that of such a certificate as it stands
abbrev pub IsDemandText : Bool → Observations → PriceList → List ℕ → Type 0
IsDemandText = IsDemandTextBy as_stated

-- the prices have the table's goods, and each record has an expenditure
pub record IsSpentOn (table : Observations) (new : PriceList) : Type 0 where
  pub goods : new.goods ≡ goods_of table
  pub spent : length new.m ≡ rows_count new.prices new.goods
