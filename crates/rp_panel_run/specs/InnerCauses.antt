-- Why a question about a long file has no table, as the functions of this crate hand it on.
use Rattle.std.specs.Prelude.{◌≡◌, ◌≢◌, ◌≤◌, ◌⊎◌, ⊤, ℕ, ◌+◌, Bool, true, false, List, Option, None, Err, codes, length}
use Rattle.rp_bound_rows.specs.declared.asked.BoundsAsked.{BoundsAsked}
use Rattle.rp_front.specs.AskedInTurn.{GrowsByFirst}
use Rattle.rp_front.specs.declared.answer.Cause.{Cause}
use Rattle.rp_front.specs.declared.answer.Cause.TheVariants as cause
use Rattle.rp_limits.specs.declared.run.TheConstants.{MOST_BYTES}
use Rattle.rp_outside.specs.Asked.{KeepsReads, Reads}
use Rattle.rp_outside.specs.Known.{AreAll, AreMoreThan}
use Rattle.rp_long.specs.Panels.{Panel, denoted_panel}
use Rattle.rp_long.specs.declared.fault.LongFault.{LongFault}
use Rattle.rp_long.specs.declared.fault.LongFault.TheVariants as long_fault
use Rattle.rp_sheet.specs.declared.fault.TableFault.{TableFault}
use Rattle.rp_sheet.specs.declared.fault.TableFault.TheVariants as table_fault
use Rattle.rp_panel_run.specs.Endings.{HasFault, IsAnswerFor, IsPanelFile, IsTextOf}
use Rattle.rp_panel_run.specs.Questions.{Asking, id_name, new_files}
use Rattle.rp_panel_run.specs.Turns.{calls_of_new}
use Rattle.rp_panel_run.specs.Told.{file_line, long_fault_text}

-- why a file of at most so many bytes was not read; `rose` says that its count of faults has risen
abbrev pub IsLoadCause : List ℕ → ℕ → Option (List ℕ) → Type 0 → Cause → Type 0
IsLoadCause name limit known rose (cause.Read file) = rose × (file.now ≡ name)
IsLoadCause name limit known rose (cause.Refused line) =
    AreMoreThan limit known × (line.items ≡ file_line name (codes "TooLong"))
IsLoadCause name limit known rose cause.NoMemory = ⊤

-- why there is no text for a panel: bounds are asked, and the file of new prices was not read
abbrev pub IsNewCause : Asking → Option (List ℕ) → Type 0 → Cause → Type 0
IsNewCause a new rose (cause.Read file) = (a.bounds ≢ None) × rose × (file.now ≡ a.new_prices)
IsNewCause a new rose (cause.Refused line) =
    (a.bounds ≢ None) × AreMoreThan MOST_BYTES new × (line.items ≡ file_line a.new_prices (codes "TooLong"))
IsNewCause a new rose cause.NoMemory = ⊤

-- the cause of these bytes of the long file, beside a file of new prices
abbrev pub IsFaultCause : Asking → Option (List ℕ) → Type 0 → List ℕ → Cause → Type 0
IsFaultCause a new rose bytes (cause.Read file) = IsPanelFile a bytes × IsNewCause a new rose (cause.Read file)
IsFaultCause a new rose bytes (cause.Refused line) =
    HasFault a bytes line.items ⊎ (IsPanelFile a bytes × IsNewCause a new rose (cause.Refused line))
IsFaultCause a new rose bytes cause.NoMemory = ⊤

-- the text, and what is told, answer a question over these bytes of the long file and some content of that of new
-- prices
abbrev pub IsTextBeside : Asking → Option (List ℕ) → List ℕ → List ℕ → List ℕ → Type 0
IsTextBeside a known long text told = (new : List ℕ) × (a.bounds ≢ None → AreAll known new)
    × IsTextOf a (record { long = long; new = new }) text told

-- the same for this panel
abbrev pub IsAnswerBeside : Asking → Option (List ℕ) → Panel → List ℕ → List ℕ → Type 0
IsAnswerBeside a known panel text told =
    (new : List ℕ) × (a.bounds ≢ None → AreAll known new) × IsAnswerFor a new panel text told

-- no file is asked for, by the counts of calls and the reads before and after
pub record AsksForNone (before after : ℕ) (old new : Option Reads) : Type 0 where
  pub calls : after ≡ before
  pub names : KeepsReads old new

-- no file is asked for but that of new prices, where bounds are asked, and that one is read at most once
pub record AsksForNew (bounds : Option BoundsAsked) (file : List ℕ) (known : Option (List ℕ)) (before after : ℕ)
    (old new : Option Reads) : Type 0 where
  pub calls : after ≤ before + calls_of_new bounds known
  pub names : GrowsByFirst old new (new_files bounds file) (length (new_files bounds file))

-- these bytes of the long file are refused
abbrev pub IsFaulty : Asking → List ℕ → Type 0
IsFaulty a long = (line : List ℕ) × HasFault a long line

-- the records denote no panel, and this line tells their first fault
pub record IsFaultLine (a : Asking) (records : List (List (List ℕ))) (line : List ℕ) : Type 0 where
  pub fault : LongFault
  pub denoted : denoted_panel (id_name a) a.kept records ≡ Err fault
  pub tells : line ≡ file_line a.file (long_fault_text fault)

-- the cause of these records
abbrev pub IsFaultOfRecords : Asking → List (List (List ℕ)) → Cause → Type 0
IsFaultOfRecords a records (cause.Read file) = ⊥
IsFaultOfRecords a records (cause.Refused line) = IsFaultLine a records line.items
IsFaultOfRecords a records cause.NoMemory = ⊤

-- a refusal with this text about a file
abbrev pub IsToldAs : List ℕ → List ℕ → Cause → Type 0
IsToldAs file text (cause.Read name) = ⊥
IsToldAs file text (cause.Refused line) = line.items ≡ file_line file text
IsToldAs file text cause.NoMemory = ⊤

-- whether a fault is want of memory, of which no file is the cause
abbrev pub is_table_memory : TableFault → Bool
is_table_memory table_fault.NoMemory = true
is_table_memory _ = false

abbrev pub is_memory : LongFault → Bool
is_memory (long_fault.Table f) = is_table_memory f
is_memory long_fault.NoIdColumn = false
is_memory (long_fault.NoKeptColumn number) = false
