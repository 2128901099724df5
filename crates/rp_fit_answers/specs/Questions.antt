-- What the words ask: of `fit` and `checkfit`, and of `random` with a limit of steps (this program's own).
use Rattle.std.specs.Prelude.{ℕ, Bool, true, false, ◌&&◌, if◌then◌else◌, List, [], ◌∷◌, codes, Option, None, Some, option_map}
use Rattle.std.specs.Str.{bytes_eq}
use Rattle.rp_limits.specs.declared.run.TheConstants.{MOST_BYTES, MOST_CERTIFICATE_BYTES}
use Rattle.rp_fit_answers.specs.declared.asked.Asked.{Asked}
use Rattle.rp_fit_answers.specs.declared.asked.Asked.TheVariants as asked
use Rattle.rp_fit_answers.specs.RandomWords.{Asking, asking_in, asking_of, is_file_name}

-- the indices of a table, as JSON or as a report; or the check of a certificate on a table; or the verdict on random
-- choices within a limit of steps. Files are named
pub data Question : Type 0 where
  Fit : (table : List ℕ) (json : Bool) → Question
  CheckFit : (table certificate : List ℕ) → Question
  RandomWithin : (asked : Asking) → Question

-- what is asked, as the code has it
abbrev pub question_of : Asked → Question
question_of (asked.Fit table json) = Fit table.now json
question_of (asked.CheckFit table certificate) = CheckFit table.now certificate.now
question_of (asked.RandomWithin own) = RandomWithin (asking_of own)

-- the words after `fit` and `checkfit`
abbrev pub report_of : List ℕ → Option Question
report_of table = if is_file_name table then Some (Fit table false) else None

abbrev pub json_of : List ℕ → List ℕ → Option Question
json_of first second =
    if is_file_name first && bytes_eq second (codes "--json") then Some (Fit first true)
    else if is_file_name second && bytes_eq first (codes "--json") then Some (Fit second true)
    else None

abbrev pub check_of : List ℕ → List ℕ → Option Question
check_of table certificate =
    if is_file_name table && is_file_name certificate then Some (CheckFit table certificate) else None

-- what the words after `fit` or `checkfit` ask: `TABLE`, `TABLE --json` or `--json TABLE`; or `TABLE CERT`
abbrev pub fit_in : List ℕ → List (List ℕ) → Option Question
fit_in command (table ∷ []) = if bytes_eq command (codes "fit") then report_of table else None
fit_in command (first ∷ second ∷ []) =
    if bytes_eq command (codes "fit") then json_of first second
    else if bytes_eq command (codes "checkfit") then check_of first second
    else None
fit_in command _ = None

-- what words ask, the program's name first
abbrev pub asked_in : List (List ℕ) → Option Question
asked_in (name ∷ command ∷ words) =
    if bytes_eq command (codes "random") then option_map RandomWithin (asking_in words)
    else fit_in command words
asked_in _ = None

-- the files that are read for it, in their order, and the most bytes of each
abbrev pub files_of : Question → List (List ℕ)
files_of (Fit table json) = table ∷ []
files_of (CheckFit table certificate) = table ∷ certificate ∷ []
files_of (RandomWithin a) = a.budgets ∷ a.choices ∷ []

abbrev pub limits_of : Question → List ℕ
limits_of (Fit table json) = MOST_BYTES ∷ []
limits_of (CheckFit table certificate) = MOST_BYTES ∷ MOST_CERTIFICATE_BYTES ∷ []
limits_of (RandomWithin a) = MOST_BYTES ∷ MOST_BYTES ∷ []
