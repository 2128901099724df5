-- What `check` and `checkrandom` print: a line on what the checker says of a certificate (this program's own text), and
-- what an accepted certificate shows.
use Rattle.std.specs.Prelude.{◌≡◌, ◌++◌, ◌-◌, ◌^◌, ℕ, List, All, Option, Some, None, codes, length, min, sum_by}
use Rattle.std.specs.Fmt.{decimal}
use Rattle.rp_table.specs.Tables.{Observations}
use Rattle.rp_check.specs.CheckVerdict.{IsCheckVerdict}
use Rattle.rp_check.specs.RandomCheckVerdict.{IsRandomCheckVerdict}
use Rattle.rp_check.specs.RandomCheckWithin.{IsRandomCheckVerdictWithin}
use Rattle.rp_check.specs.declared.verdict.Verdict.{Verdict}
use Rattle.rp_check.specs.declared.verdict.Verdict.TheVariants.{Accepted, Rejected}
use Rattle.rp_evidence.specs.Input.{input_of_table}
use Rattle.rp_evidence.specs.Proves.{Proves}
use Rattle.rp_evidence.specs.Withheld.{withheld_in}
use Rattle.rp_evidence.specs.declared.certificate.Certificate.{Certificate}
use Rattle.rp_evidence.specs.declared.certificate.Item.{Item}
use Rattle.rp_evidence.specs.declared.failure.Reason.{Reason}
use Rattle.rp_evidence.specs.declared.failure.Reason.TheVariants as reason
use Rattle.rp_limits.specs.declared.generated.TheConstants.{STEPS}
use Rattle.rp_patch.specs.Patches.{PatchList}
use Rattle.rp_patch.specs.RandomEvidence.{ProvesOnPatches}
use Rattle.rp_people.specs.Says.{HasPricesAboveZero, Says}
use Rattle.rp_persons.specs.SaysRandom.{SaysOnPatches}
use Rattle.rp_print.specs.ListText.{line_of}
use Rattle.rp_types.specs.declared.types.Rational.{Rational}
use Rattle.rp_answers.specs.declared.status.Status.{Status}
use Rattle.rp_answers.specs.declared.status.Status.TheVariants as status

abbrev pub reason_name : Reason → List ℕ
reason_name reason.Shape = codes "Shape"
reason_name reason.Number = codes "Number"
reason_name reason.NotClosed = codes "NotClosed"
reason_name reason.NotWeak = codes "NotWeak"
reason_name reason.NoStrict = codes "NoStrict"
reason_name reason.Order = codes "Order"
reason_name reason.Level = codes "Level"
reason_name reason.NotLess = codes "NotLess"
reason_name reason.Wide = codes "Wide"
reason_name reason.NoGarp = codes "NoGarp"
reason_name reason.Set = codes "Set"
reason_name reason.Point = codes "Point"
reason_name reason.Bound = codes "Bound"
reason_name reason.Least = codes "Least"
reason_name reason.Dual = codes "Dual"
reason_name reason.Units = codes "Units"
reason_name reason.Irrational = codes "Irrational"
reason_name reason.Levels = codes "Levels"
reason_name reason.Steps = codes "Steps"

-- how many values the items leave out, cut off at 2^32 - 1
abbrev pub withheld_of : List Item → ℕ
withheld_of items = min (sum_by withheld_in items) (2 ^ 32 - 1)

-- the line on items that are accepted
abbrev pub accepted_line : List Item → List ℕ
accepted_line items =
    line_of (codes "accepted items " ++ decimal (length items) ++ codes " withheld " ++ decimal (withheld_of items))

-- the line on the item that is rejected
abbrev pub rejected_line : ℕ → Reason → ℕ → List ℕ
rejected_line item reason place =
    line_of (codes "rejected item " ++ decimal item ++ codes " " ++ reason_name reason
    ++ codes " place " ++ decimal place)

-- the line on what the checker says of these items
abbrev pub check_line : List Item → Verdict → List ℕ
check_line items Accepted = accepted_line items
check_line items (Rejected item reason place) = rejected_line item reason place

-- the status of a call that tells it
abbrev pub check_status : Verdict → Status
check_status Accepted = status.Done
check_status (Rejected item reason place) = status.Rejected

-- the status and the text are those of what the checker says of a certificate on a table; where it is accepted, each of
-- its items proves its verdict, and says of people what such a verdict says, and no new price of it is 0
pub record IsTableCheck (table : Observations) (certificate : Certificate) (s : Status) (text : List ℕ) : Type 0 where
  pub verdict : Verdict
  pub found : IsCheckVerdict (input_of_table table) certificate.levels certificate.items verdict
  pub proves : verdict ≡ Accepted → All (Proves (input_of_table table)) certificate.items
  pub says : verdict ≡ Accepted → All (Says (input_of_table table)) certificate.items
  pub priced : verdict ≡ Accepted → All (HasPricesAboveZero (input_of_table table)) certificate.items
  pub ends : s ≡ check_status verdict
  pub tells : text ≡ check_line certificate.items verdict

-- the checker's verdict on items on choices from budgets: within the steps of a search where their types are not listed
abbrev pub IsChoicesVerdict : PatchList → Option (List Rational) → List Item → Verdict → Type 0
IsChoicesVerdict p (Some types) items verdict = IsRandomCheckVerdict p items verdict
IsChoicesVerdict p None items verdict = IsRandomCheckVerdictWithin p items STEPS verdict

-- the same on choices from budgets, whose items say so of persons
pub record IsRandomCheck (p : PatchList) (types : Option (List Rational)) (certificate : Certificate) (s : Status)
    (text : List ℕ) : Type 0 where
  pub verdict : Verdict
  pub found : IsChoicesVerdict p types certificate.items verdict
  pub proves : verdict ≡ Accepted → All (ProvesOnPatches p) certificate.items
  pub says : verdict ≡ Accepted → All (SaysOnPatches p) certificate.items
  pub ends : s ≡ check_status verdict
  pub tells : text ≡ check_line certificate.items verdict
