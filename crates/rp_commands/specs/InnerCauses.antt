-- Why there is no answer, as the code says it: what each cause stands for, its status and its line.
use Rattle.std.specs.Prelude.{◌≡◌, ◌≢◌, ◌<◌, ℕ, suc, List, Result, Ok, Err, MatchResult, length}
use Rattle.rp_command_line.specs.CommandLine.{Line, file_at, files_of}
use Rattle.rp_commands.specs.Readings.{Reading}
use Rattle.rp_outside.specs.Known.{AreAll}
use Rattle.rp_commands.specs.Answers.{Files, RefusesWithBy}
use Rattle.rp_patch.specs.declared.fault.PatchFault.{PatchFault}
use Rattle.rp_patch.specs.declared.fault.PatchFault.TheVariants as patch_fault
use Rattle.rp_types.specs.declared.fault.TypesFault.{TypesFault}
use Rattle.rp_types.specs.declared.fault.TypesFault.TheVariants as types_fault
use Rattle.rp_commands.specs.FaultLines.{read_line, memory_line, patch_line, types_line}
use Rattle.rp_commands.specs.declared.files.Cause.{Cause}
use Rattle.rp_commands.specs.declared.files.Cause.TheVariants.{Read, Refused, NoMemory}
use Rattle.rp_answers.specs.declared.choice_limits.ChoiceLimits.{ChoiceLimits}
use Rattle.rp_answers.specs.declared.status.Status.{Status}
use Rattle.rp_answers.specs.declared.status.Status.TheVariants as status

abbrev pub status_of_cause : Cause → Status
status_of_cause (Read file) = status.ReadFault
status_of_cause (Refused line) = status.Refused
status_of_cause NoMemory = status.NoMemory

abbrev pub cause_line : Cause → List ℕ
cause_line (Read file) = read_line file.now
cause_line (Refused line) = line.items
cause_line NoMemory = memory_line

-- a refusal with that line, or want of memory
abbrev pub IsRefusal : List ℕ → Cause → Type 0
IsRefusal line (Read file) = ⊥
IsRefusal line (Refused text) = text.items ≡ line
IsRefusal line NoMemory = Unit {0}

-- a fault as a cause: its line, or want of memory, which no file is the cause of
abbrev pub IsFaultCause : {F : Type 0} → F → (F → List ℕ) → F → Cause → Type 0
IsFaultCause no_memory line f (Read name) = ⊥
IsFaultCause no_memory line f (Refused text) = (f ≢ no_memory) × (text.items ≡ line f)
IsFaultCause no_memory line f NoMemory = Unit {0}

-- a fault of patches, and of rational types
abbrev pub IsPatchRefusal : PatchFault → Cause → Type 0
IsPatchRefusal = IsFaultCause patch_fault.NoMemory patch_line

abbrev pub IsTypesRefusal : TypesFault → Cause → Type 0
IsTypesRefusal = IsFaultCause types_fault.NoMemory types_line

-- why nothing is made of what was read: it is refused
abbrev pub IsReadingCause : {A : Type 0} → Reading A → Cause → Type 0
IsReadingCause reading (Read name) = ⊥
IsReadingCause reading (Refused line) = reading (Err line.items)
IsReadingCause reading NoMemory = Unit {0}

-- why a file gives no value: its count of faults rose, or some content of it is refused by that reading
abbrev pub IsFileCause : {A : Type 0} → Files → (List ℕ → Type 0) → List ℕ → (List ℕ → Reading A) → Cause → Type 0
IsFileCause files rose file reading (Read name) = (name.now ≡ file) × rose file
IsFileCause files rose file reading (Refused line) = (bytes : List ℕ) × AreAll (files file) bytes
    × reading bytes (Err line.items)
IsFileCause files rose file reading NoMemory = Unit {0}

-- some content of a file has that value
abbrev pub HoldsValue : {A : Type 0} → Files → List ℕ → (List ℕ → Reading A) → A → Type 0
HoldsValue files file reading value = (bytes : List ℕ) × AreAll (files file) bytes × reading bytes (Ok value)

-- what a loader gives: the value of some content of its file, or why there is none
abbrev pub IsLoaded : {A : Type 0} → Files → (List ℕ → Type 0) → List ℕ → (List ℕ → Reading A) → Result A Cause → Type 0
IsLoaded files rose file reading result =
    MatchResult result (HoldsValue files file reading) (IsFileCause files rose file reading)

-- why a line has no input: the count of its k-th file (from 0) rose, and none was asked for after it; or some content
-- of them is refused, by the limits of choices. `asks line n` says that the desk was asked for no more than the first n
-- files
abbrev pub IsCause : ChoiceLimits → Files → (List ℕ → Type 0) → (Line → ℕ → Type 0) → Line → Cause → Type 0
IsCause limits files rose asks line (Read file) =
    (k : ℕ) × (k < length (files_of line)) × (file.now ≡ file_at line k) × rose file.now × asks line (suc k)
IsCause limits files rose asks line (Refused text) = RefusesWithBy limits files line text.items
IsCause limits files rose asks line NoMemory = Unit {0}
