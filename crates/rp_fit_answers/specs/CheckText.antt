-- What `checkfit` prints: a line on what the checker says of a certificate on goodness of fit (this program's own text),
-- and what an accepted certificate shows.
use Rattle.std.specs.Prelude.{◌≡◌, ◌++◌, ℕ, List, All, codes, length}
use Rattle.std.specs.Fmt.{decimal}
use Rattle.rp_answers.specs.CheckText.{rejected_line}
use Rattle.rp_check.specs.declared.verdict.Verdict.{Verdict}
use Rattle.rp_check.specs.declared.verdict.Verdict.TheVariants.{Accepted, Rejected}
use Rattle.rp_check_goodness.specs.FitVerdict.{IsFitVerdict}
use Rattle.rp_evidence.specs.Input.{input_of_table}
use Rattle.rp_fit.specs.FitItems.{ProvesFit}
use Rattle.rp_fit.specs.declared.item.FitItem.{FitItem}
use Rattle.rp_front.specs.declared.status.Status.{Status}
use Rattle.rp_front.specs.declared.status.Status.TheVariants as status
use Rattle.rp_print.specs.ListText.{line_of}
use Rattle.rp_table.specs.Tables.{Observations}

-- the line on items that are accepted
abbrev pub accepted_line : List FitItem → List ℕ
accepted_line items = line_of (codes "accepted items " ++ decimal (length items))

-- the line on what the checker says of these items; where one is rejected, that of `check`
abbrev pub check_line : List FitItem → Verdict → List ℕ
check_line items Accepted = accepted_line items
check_line items (Rejected item reason place) = rejected_line item reason place

-- the status of a call that tells it
abbrev pub check_status : Verdict → Status
check_status Accepted = status.Done
check_status (Rejected item reason place) = status.Rejected

-- the status and the text are those of what the checker says of a certificate on a table; where it is accepted, each of
-- its items proves its index or its bounds
pub record IsFitCheck (table : Observations) (items : List FitItem) (s : Status) (text : List ℕ) : Type 0 where
  pub verdict : Verdict
  pub found : IsFitVerdict (input_of_table table) items verdict
  pub proves : verdict ≡ Accepted → All (ProvesFit (input_of_table table)) items
  pub ends : s ≡ check_status verdict
  pub tells : text ≡ check_line items verdict
