-- What `utility` prints: the report of the verdicts on the generalized axiom (Varian 1982) and by Afriat's theorem
-- (Afriat 1967), and then for each bundle its utility under the numbers of that model.
use Rattle.std.specs.Prelude.{◌≡◌, ℕ, zero, suc, ℤ, All, List, [], ◌∷◌, ◌++◌, codes, slice_index}
use Rattle.std.specs.Fmt.{signed_decimal}
use Rattle.rp_table.specs.BundleLists.{BundleList}
use Rattle.rp_table.specs.Cost.{cost_of}
use Rattle.rp_table.specs.Rows.{row_of, rows_count}
use Rattle.rp_table.specs.Tables.{Observations, records_of}
use Rattle.rp_evidence.specs.Certificates.{table_certificate}
use Rattle.rp_evidence.specs.Afriat.{IsOwnUtility}
use Rattle.rp_evidence.specs.AfriatEvidence.{multiplier_in, utility_in}
use Rattle.rp_evidence.specs.Demand.{FractionBundle}
use Rattle.rp_evidence.specs.Input.{input_of_table}
use Rattle.rp_evidence.specs.Proves.{Proves}
use Rattle.rp_evidence.specs.declared.afriat.AfriatPart.{AfriatPart}
use Rattle.rp_evidence.specs.declared.afriat.AfriatPart.TheVariants.{Model, NoModel, Wide}
use Rattle.rp_evidence.specs.declared.afriat.Numbers.{Numbers}
use Rattle.rp_evidence.specs.declared.certificate.Certificate.{Certificate}
use Rattle.rp_evidence.specs.declared.certificate.Item.TheVariants.{Garp as GarpItem, Afriat as AfriatItem}
use Rattle.rp_evidence.specs.declared.garp.Garp.{Garp}
use Rattle.rp_afriat.specs.Bundle.{bundle_cost}
use Rattle.rp_afriat.specs.AfriatVerdict.{IsOwnAfriatVerdict}
use Rattle.rp_garp.specs.GarpVerdict.{IsOwnGarpVerdict}
use Rattle.rp_people.specs.AfriatUtility.{IsUtilityOfNumbers}
use Rattle.rp_people.specs.Fractions.{AreEqual, SignedFraction}
use Rattle.rp_people.specs.Says.{Says}
use Rattle.rp_people.specs.TableChoices.{choices_of}
use Rattle.rp_print.specs.ListText.{line_of, ordinal_text}
use Rattle.rp_report.specs.ReportText.{report_text}
use Rattle.rp_answers.specs.Accepted.{IsAcceptedOn}

-- the certificate of a table with these levels, or none, and these two items
abbrev pub first_items : List ℕ → Garp → AfriatPart → Certificate
first_items levels garp afriat = table_certificate levels (GarpItem garp ∷ AfriatItem afriat ∷ [])

-- the line of bundle k, with these words
abbrev pub at_line : ℕ → List ℕ → List ℕ
at_line k words = line_of (codes "at " ++ ordinal_text k ++ words)

-- the whole number is what the bundle has by the utility of the numbers: that of the consumer whom an item with these
-- numbers names (`HaveUtility`)
abbrev pub IsUtilityOfConsumer : Observations → Numbers → List ℕ → ℤ → Type 0
IsUtilityOfConsumer table numbers bundle value =
    (utility : FractionBundle → SignedFraction)
    → IsUtilityOfNumbers (choices_of (input_of_table table)) (utility_in numbers) (multiplier_in numbers) utility
    → AreEqual (utility (record { den = 1; num = slice_index bundle })) (record { num = value; den = 1 })

-- the line of a bundle: its utility under the numbers of a model, which is that of the consumer whom they name; `none`
-- where no model exists; `withheld` where its numbers are
abbrev pub IsUtilityLine : Observations → AfriatPart → ℕ → List ℕ → List ℕ → Type 0
IsUtilityLine table (Model numbers) k bundle line =
    (value : ℤ)
    × IsOwnUtility (records_of table) table.levels (cost_of table) (utility_in numbers) (multiplier_in numbers) 1
    (bundle_cost table bundle) value
    × IsUtilityOfConsumer table numbers bundle value
    × (line ≡ at_line k (codes " value " ++ signed_decimal value))
IsUtilityLine table (NoModel walk) k bundle line = line ≡ at_line k (codes " none")
IsUtilityLine table (Wide at) k bundle line = line ≡ at_line k (codes " withheld")

-- the lines of the first bundles, so many
abbrev pub AreUtilityLines : Observations → AfriatPart → BundleList → ℕ → List ℕ → Type 0
AreUtilityLines table evidence bundles zero text = text ≡ []
AreUtilityLines table evidence bundles (suc k) text =
    (before : List ℕ) × (line : List ℕ) × AreUtilityLines table evidence bundles k before
    × IsUtilityLine table evidence k (row_of bundles.quantities bundles.goods k) line × (text ≡ before ++ line)

-- the text of a table and bundles: both verdicts are true and as they are given, the checker accepts their certificate,
-- each says of people what such a verdict says, and each bundle has its line
pub record IsUtilityText (table : Observations) (bundles : BundleList) (text : List ℕ) : Type 0 where
  pub garp : Garp
  pub afriat : AfriatPart
  pub lines : List ℕ
  pub garp_proves : Proves (input_of_table table) (GarpItem garp)
  pub garp_given : IsOwnGarpVerdict (records_of table) table.levels (cost_of table) garp
  pub afriat_proves : Proves (input_of_table table) (AfriatItem afriat)
  pub afriat_given : IsOwnAfriatVerdict (records_of table) table.levels (cost_of table) afriat
  pub accepted : IsAcceptedOn (input_of_table table) (first_items table.levels garp afriat)
  pub says : All (Says (input_of_table table)) (first_items table.levels garp afriat).items
  pub all_lines : AreUtilityLines table afriat bundles (rows_count bundles.quantities bundles.goods) lines
  pub text_is : text ≡ report_text table (first_items table.levels garp afriat).items ++ lines
