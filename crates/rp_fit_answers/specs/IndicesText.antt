-- What `fit` prints: a certificate on goodness of fit that the checker accepts, as a report or as JSON (this program's
-- own text).
use Rattle.std.specs.Prelude.{◌≡◌, ◌⊎◌, ℕ, Bool, List, All, Result, Ok, Err, if◌then◌else◌}
use Rattle.rp_check.specs.declared.verdict.Verdict.TheVariants.{Accepted}
use Rattle.rp_check_goodness.specs.FitVerdict.{IsFitVerdict}
use Rattle.rp_evidence.specs.Input.{input_of_table}
use Rattle.rp_fit.specs.FitItems.{ProvesFit}
use Rattle.rp_fit.specs.declared.item.FitItem.{FitItem}
use Rattle.rp_fit_find.specs.WholeFit.{IsWholeFit}
use Rattle.rp_fit_report.specs.FitReportText.{fit_report_text}
use Rattle.rp_front.specs.declared.status.Status.{Status}
use Rattle.rp_front.specs.declared.status.Status.TheVariants.{Done}
use Rattle.rp_json.specs.declared.fault.JsonFault.{JsonFault}
use Rattle.rp_json.specs.declared.fault.JsonFault.TheVariants.{NoMemory}
use Rattle.rp_json_fit.specs.FitDenoted.{IsFitDenoted}
use Rattle.rp_json_fit.specs.FitValue.{fit_text}
use Rattle.rp_table.specs.Tables.{Observations}

-- the text of a certificate on a table: JSON, or a report
abbrev pub printed_text : Bool → Observations → List FitItem → List ℕ
printed_text json table items = if json then fit_text items else fit_report_text table items

-- the text is that of a certificate with an item for each index. Each item proves its index or its bounds by the
-- definition, and the checker accepts it. Its JSON denotes this certificate, and nothing else but for want of memory
pub record IsIndicesText (json : Bool) (table : Observations) (s : Status) (text : List ℕ) : Type 0 where
  pub items : List FitItem
  pub proves : All (ProvesFit (input_of_table table)) items
  pub accepted : IsFitVerdict (input_of_table table) items Accepted
  pub kinds : IsWholeFit table items
  pub read_back : (result : Result (List FitItem) JsonFault) → IsFitDenoted (fit_text items) result
      → (result ≡ Ok items) ⊎ (result ≡ Err NoMemory)
  pub ends : s ≡ Done
  pub tells : text ≡ printed_text json table items
