-- How often a choice was made on each budget.
use Rattle.std.specs.Prelude.{ℕ, ◌+◌, Bool, not, ◌&&◌, ◌==◌, nat_lt, if◌then◌else◌, List, length, codes, Option, None}
use Rattle.std.specs.Prelude.{Some, unwrap_or}
use Rattle.rp_num.specs.declared.decimal.Decimal.{Decimal}
use Rattle.rp_num.specs.Below.{first_of, any_below}
use Rattle.rp_forms.specs.Texts.{place_of, number_of}
use Rattle.rp_sheet.specs.Sizes.{figure_at}
use Rattle.rp_forms.specs.declared.form.Form.{Form}
use Rattle.rp_sheet.specs.declared.fault.TableFault.{TableFault}
use Rattle.rp_sheet.specs.declared.fault.TableFault.TheVariants as fault

-- the column with that header
abbrev pub column_named : List ℕ → List (List ℕ) → ℕ
column_named header headers = unwrap_or (place_of headers header) 0

-- whether the counts of the records on budget j, from 0, have a sum above 0: one of them is above 0. In the
-- file budgets count from 1
unfoldable pub is_chosen : List (List ℕ) → List (List Decimal) → ℕ → Bool
is_chosen headers figures j = any_below (length figures) (λ t.
    ((figure_at figures t (column_named (codes "budget") headers)).units == j + 1)
    && nat_lt 0 (figure_at figures t (column_named (codes "n") headers)).units)

-- budgets in order on which nothing was chosen
unfoldable pub choices_stage : Form → List (List ℕ) → List (List Decimal) → Option TableFault
choices_stage form headers figures =
    first_of form.budgets
    (λ j. if not (is_chosen headers figures j) then Some (fault.NoChoices (number_of j)) else None)
