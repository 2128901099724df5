-- What is read of files: values, and the lines of refusals, which are whole lines for standard error (this program's
-- own order and texts).
use Rattle.std.specs.Prelude.{◌≡◌, ◌≢◌, ◌⊎◌, ◌≤◌, ◌<◌, ℕ, nat_lt, if◌then◌else◌, Bool, true, false, List, ◌∷◌, length}
use Rattle.std.specs.Prelude.{Option, Some, None, Result, Ok, Err, codes}
use Rattle.rp_table.specs.Tables.{Observations}
use Rattle.rp_text.specs.Denotation.{table_in}
use Rattle.rp_sheet.specs.declared.fault.TableFault.{TableFault}
use Rattle.rp_evidence.specs.declared.certificate.Certificate.{Certificate}
use Rattle.rp_evidence.specs.declared.certificate.Kind.{Kind}
use Rattle.rp_json.specs.Denoted.{IsDenoted}
use Rattle.rp_json.specs.declared.fault.JsonFault.{JsonFault}
use Rattle.rp_json.specs.declared.fault.JsonFault.TheVariants as json_fault
use Rattle.rp_command_line.specs.CommandLine.{Arguments, file}
use Rattle.rp_commands.specs.FaultTexts.{fault_text, json_fault_text}
use Rattle.rp_commands.specs.FaultLines.{file_line}
use Rattle.rp_limits.specs.declared.run.TheConstants.{MOST_BYTES, MOST_CERTIFICATE_BYTES}

-- what is read: which values, and which lines of a refusal
abbrev pub Reading : Type 0 → Type 1
Reading A = Result A (List ℕ) → Type 0

-- just this is read
abbrev pub Just : {A : Type 0} → Result A (List ℕ) → Reading A
Just this result = this ≡ result

-- what follows where nothing was refused so far
abbrev pub AndThen : {A B : Type 0} → Reading A → (A → Reading B) → Reading B
AndThen {A} first next (Ok value) = (earlier : A) × first (Ok earlier) × next earlier (Ok value)
AndThen {A} first next (Err line) = first (Err line) ⊎ ((earlier : A) × first (Ok earlier) × next earlier (Err line))

-- a value that was read from a file, or the line of its fault, by the text of each fault
abbrev pub or_line : {A F : Type 0} → (F → List ℕ) → List ℕ → Result A F → Result A (List ℕ)
or_line text file (Ok value) = Ok value
or_line text file (Err fault) = Err (file_line file (text fault))

-- what the bytes of a file denote by this reading, where they are not too many
abbrev pub held_in : {A F : Type 0} → (F → List ℕ) → List ℕ → (List ℕ → Result A F) → List ℕ → Result A (List ℕ)
held_in text file reading bytes =
    if nat_lt MOST_BYTES (length bytes) then Err (file_line file (codes "TooLong"))
    else or_line text file (reading bytes)

abbrev pub HeldIn : {A F : Type 0} → (F → List ℕ) → List ℕ → (List ℕ → Result A F) → List ℕ → Reading A
HeldIn text file reading bytes = Just (held_in text file reading bytes)

-- the same of a file of numbers
abbrev pub numbers_in : {A : Type 0} → List ℕ → (List ℕ → Result A TableFault) → List ℕ → Result A (List ℕ)
numbers_in = held_in fault_text

abbrev pub NumbersIn : {A : Type 0} → List ℕ → (List ℕ → Result A TableFault) → List ℕ → Reading A
NumbersIn file reading bytes = Just (numbers_in file reading bytes)

-- all bytes of a file, as a reading of it
abbrev pub all_bytes : List ℕ → Result (List ℕ) TableFault
all_bytes bytes = Ok bytes

-- the certificate of a kind that the bytes of its file denote, where they are not too many
abbrev pub CertificateIn : List ℕ → Kind → List ℕ → Reading Certificate
CertificateIn file kind bytes (Ok certificate) = (length bytes ≤ MOST_CERTIFICATE_BYTES)
    × IsDenoted kind bytes (Ok certificate)
CertificateIn file kind bytes (Err line) =
    ((MOST_CERTIFICATE_BYTES < length bytes) × (line ≡ file_line file (codes "TooLong")))
    ⊎ ((length bytes ≤ MOST_CERTIFICATE_BYTES)
    × ((fault : JsonFault) × (fault ≢ json_fault.NoMemory) × IsDenoted kind bytes (Err fault)
    × (line ≡ file_line file (json_fault_text fault))))

-- what a file holds by a reading, where its bytes are known; nothing is read where they are not
abbrev pub WhereKnown : {A : Type 0} → (List ℕ → Reading A) → Option (List ℕ) → Reading A
WhereKnown reading None result = ⊥
WhereKnown reading (Some bytes) result = reading bytes result

-- the same of the k-th file of what is given, by a reading that has its name
abbrev pub FileIn : {A : Type 0} → Arguments → (ℕ → Option (List ℕ)) → ℕ → (List ℕ → List ℕ → Reading A) → Reading A
FileIn arguments known k reading = WhereKnown (reading (file arguments k)) (known k)

-- whether levels of a table's observations are refused: there are some, and the command takes none
abbrev pub refuses_levels : Bool → List ℕ → Bool
refuses_levels false (level ∷ levels) = true
refuses_levels _ _ = false

-- a table that was read, unless the command refuses its levels
abbrev pub unless_levelled : Bool → List ℕ → Observations → Result Observations (List ℕ)
unless_levelled takes file table =
    if refuses_levels takes table.levels then Err (file_line file (codes "OwnLevels")) else Ok table

abbrev pub and_unless_levelled : Bool → List ℕ → Result Observations (List ℕ) → Result Observations (List ℕ)
and_unless_levelled takes file (Ok table) = unless_levelled takes file table
and_unless_levelled takes file (Err line) = Err line

-- the table that the bytes of its file denote for a command, which takes levels or not
abbrev pub taken_table : Bool → List ℕ → List ℕ → Result Observations (List ℕ)
taken_table takes file bytes = and_unless_levelled takes file (numbers_in file table_in bytes)

abbrev pub TakenTable : Bool → List ℕ → List ℕ → Reading Observations
TakenTable takes file bytes = Just (taken_table takes file bytes)

-- a table in the first file
abbrev pub TableIn : Bool → Arguments → (ℕ → Option (List ℕ)) → Reading Observations
TableIn takes arguments known = FileIn arguments known 0 (TakenTable takes)
