-- Why a file gives nothing, as the code says it (for the loaders).
use Rattle.std.specs.Prelude.{◌≡◌, ◌≢◌, ◌++◌, ℕ, List, [], Option, None, Some, Result, Ok, Err, MatchResult}
use Rattle.std.specs.Fmt.{decimal}
use Rattle.rp_outside.specs.Known.{AreAll}
use Rattle.rp_commands.specs.Readings.{Reading}
use Rattle.rp_commands.specs.declared.files.Cause.{Cause as LineCause}
use Rattle.rp_commands.specs.declared.files.Cause.TheVariants as line_cause
use Rattle.rp_front.specs.Contents.{Files}
use Rattle.rp_front.specs.declared.answer.Cause.{Cause}
use Rattle.rp_front.specs.declared.answer.Cause.TheVariants.{Read, Refused, NoMemory}
use Rattle.rp_sheet.specs.declared.fault.TableFault.{TableFault}
use Rattle.rp_sheet.specs.declared.fault.TableFault.TheVariants as fault

-- a refusal with that line, or want of memory
abbrev pub IsRefusal : List ℕ → Cause → Type 0
IsRefusal line (Read file) = ⊥
IsRefusal line (Refused text) = text.items ≡ line
IsRefusal line NoMemory = Unit {0}

-- a fault as a cause: its line, or want of memory, which no file is the cause of
abbrev pub IsFaultCause : {F : Type 0} → F → (F → List ℕ) → F → Cause → Type 0
IsFaultCause no_memory line f (Read name) = ⊥
IsFaultCause no_memory line f (Refused text) = (f ≢ no_memory) × (text.items ≡ line f)
IsFaultCause no_memory line f NoMemory = Unit {0}

-- the budget of a fault, and the text of a place where there is one
abbrev pub budget_of : TableFault → Option ℕ
budget_of (fault.NoChoices budget) = Some budget
budget_of _ = None

abbrev pub place_text : List ℕ → Option ℕ → List ℕ
place_text word None = []
place_text word (Some place) = word ++ decimal place

-- why nothing is made of what was read: it is refused
abbrev pub IsReadingCause : {A : Type 0} → Reading A → Cause → Type 0
IsReadingCause reading (Read name) = ⊥
IsReadingCause reading (Refused line) = reading (Err line.items)
IsReadingCause reading NoMemory = Unit {0}

-- why a file gives no value: its count of faults rose, or some content of it is refused by that reading
abbrev pub IsFileCause : {A : Type 0} → Files → (List ℕ → Type 0) → List ℕ → (List ℕ → Reading A) → Cause → Type 0
IsFileCause files rose file reading (Read name) = (name.now ≡ file) × rose file
IsFileCause files rose file reading (Refused line) = (bytes : List ℕ) × AreAll (files file) bytes
    × reading bytes (Err line.items)
IsFileCause files rose file reading NoMemory = Unit {0}

-- some content of a file has that value
abbrev pub HoldsValue : {A : Type 0} → Files → List ℕ → (List ℕ → Reading A) → A → Type 0
HoldsValue files file reading value = (bytes : List ℕ) × AreAll (files file) bytes × reading bytes (Ok value)

-- what a loader gives: the value of some content of its file, or why there is none
abbrev pub IsLoaded : {A : Type 0} → Files → (List ℕ → Type 0) → List ℕ → (List ℕ → Reading A) → Result A Cause → Type 0
IsLoaded files rose file reading result =
    MatchResult result (HoldsValue files file reading) (IsFileCause files rose file reading)

-- a cause of a command of `rp`, as that of a program over the front
abbrev pub IsSameCause : LineCause → Cause → Type 0
IsSameCause (line_cause.Read name) (Read file) = file ≡ name
IsSameCause (line_cause.Refused text) (Refused line) = line ≡ text
IsSameCause line_cause.NoMemory NoMemory = Unit {0}
IsSameCause _ _ = ⊥
