-- What the files of a question hold, or the first refusal, which is a whole line for standard error: that of `rp` (this
-- program's own order and texts).
use Rattle.std.specs.Prelude.{◌≢◌, ◌≡◌, ◌⊎◌, ◌≤◌, ◌<◌, ℕ, false, List, codes, length, Option, Ok, Err}
use Rattle.rp_commands.specs.FaultLines.{file_line}
use Rattle.rp_commands.specs.FaultTexts.{json_fault_text}
use Rattle.rp_answers.specs.declared.choice_limits.ChoiceLimits.TheVariants.{Unlisted}
use Rattle.rp_commands.specs.ChoiceContents.{TypedPatchesOf}
use Rattle.rp_commands.specs.Readings.{AndThen, Just, NumbersIn, Reading, TakenTable, WhereKnown}
use Rattle.rp_fit.specs.declared.item.FitItem.{FitItem}
use Rattle.rp_json.specs.declared.fault.JsonFault.{JsonFault}
use Rattle.rp_json.specs.declared.fault.JsonFault.TheVariants as json_fault
use Rattle.rp_json_fit.specs.FitDenoted.{IsFitDenoted}
use Rattle.rp_limits.specs.declared.run.TheConstants.{MOST_CERTIFICATE_BYTES}
use Rattle.rp_patch.specs.Patches.{PatchList}
use Rattle.rp_table.specs.BudgetLists.{BudgetList}
use Rattle.rp_table.specs.Tables.{Observations}
use Rattle.rp_text.specs.Denotation.{budgets_in, choices_on}
use Rattle.rp_types.specs.declared.types.Rational.{Rational}
use Rattle.rp_fit_answers.specs.Questions.{CheckFit, Fit, Question, RandomWithin}
use Rattle.rp_fit_answers.specs.RandomWords.{units_of}

-- a table without levels of its observations' own, and beside it the items of a certificate on goodness of fit; or the
-- patches of choices from budgets with their rational types, where these are listed
pub data Held : Type 0 where
  Table : (table : Observations) → Held
  TableAndCertificate : (table : Observations) (items : List FitItem) → Held
  Choices : (patches : PatchList) (types : Option (List Rational)) → Held

-- what a file of choices from these budgets comes to: that of `rp-wide`, which answers choices whose types are not listed
abbrev pub ChosenIn : BudgetList → Option ℕ → List ℕ → List ℕ → Reading (PatchList × Option (List Rational))
ChosenIn budgets per file bytes =
    AndThen (NumbersIn file (choices_on budgets) bytes) (λ c. TypedPatchesOf Unlisted budgets c per)

-- the certificate that the bytes of its file denote, where they are not too many; or the line of the first fault of bytes
-- that denote none
abbrev pub CertificateIn : List ℕ → List ℕ → Reading (List FitItem)
CertificateIn file bytes (Ok items) = (length bytes ≤ MOST_CERTIFICATE_BYTES) × IsFitDenoted bytes (Ok items)
CertificateIn file bytes (Err line) =
    ((MOST_CERTIFICATE_BYTES < length bytes) × (line ≡ file_line file (codes "TooLong")))
    ⊎ ((length bytes ≤ MOST_CERTIFICATE_BYTES) × ((items : List FitItem) → ¬ IsFitDenoted bytes (Ok items))
    × ((fault : JsonFault) × (fault ≢ json_fault.NoMemory) × IsFitDenoted bytes (Err fault)
    × (line ≡ file_line file (json_fault_text fault))))

-- what the files hold, from the bytes of the k-th of them for each k from 0, as far as they are known. Where a file is
-- not, nothing is held but what is refused before it
abbrev pub ContentsIn : Question → (ℕ → Option (List ℕ)) → Reading Held
ContentsIn (Fit table json) known =
    AndThen (WhereKnown (TakenTable false table) (known 0)) (λ t. Just (Ok (Table t)))
ContentsIn (CheckFit table certificate) known =
    AndThen (WhereKnown (TakenTable false table) (known 0)) (λ t.
    AndThen (WhereKnown (CertificateIn certificate) (known 1)) (λ items. Just (Ok (TableAndCertificate t items))))
ContentsIn (RandomWithin a) known =
    AndThen (WhereKnown (NumbersIn a.budgets budgets_in) (known 0)) (λ b.
    AndThen (WhereKnown (ChosenIn b (units_of a) a.choices) (known 1)) (λ made. Just (Ok (Choices made.0 made.1))))
