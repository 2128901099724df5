-- How a call of the program ends: the statuses with an answer, those that leave the output as it was, and the line
-- on standard error with its cause.
use Rattle.std.specs.Prelude.{◌≡◌, ◌<◌, ℕ, suc, List, Option, Some, Contains, length}
use Rattle.rp_outside.specs.Faults.{HasRisen}
use Rattle.rp_command_line.specs.CommandLine.{Line, file_at, files_of}
use Rattle.rp_commands.specs.Answers.{Files, RefusesWithBy}
use Rattle.rp_commands.specs.FaultLines.{read_line, write_line, memory_line}
use Rattle.rp_answers.specs.Printed.{Printed, as_stated}
use Rattle.rp_answers.specs.declared.status.Status.{Status}
use Rattle.rp_answers.specs.declared.status.Status.TheVariants.{Done, Rejected, Usage, ReadFault, Refused, WriteFault}
use Rattle.rp_answers.specs.declared.status.Status.TheVariants.{NoMemory}

-- the count of faults of a file has risen, from the counts before to those after
abbrev pub Rose : (List ℕ → ℕ) → (List ℕ → ℕ) → List ℕ → Type 0
Rose before after file = HasRisen (before file) (after file)

-- that of none of a line's files has
abbrev pub NoneRose : Line → (List ℕ → ℕ) → (List ℕ → ℕ) → Type 0
NoneRose line before after = (file : List ℕ) → Contains (files_of line) file → ¬ Rose before after file

-- the whole answer went out
abbrev pub IsEnd : Status → Type 0
IsEnd Done = Unit {0}
IsEnd Rejected = Unit {0}
IsEnd Usage = ⊥
IsEnd ReadFault = ⊥
IsEnd Refused = ⊥
IsEnd WriteFault = ⊥
IsEnd NoMemory = ⊥

-- nothing went to the output
abbrev pub IsSilent : Status → Type 0
IsSilent Done = ⊥
IsSilent Rejected = ⊥
IsSilent Usage = Unit {0}
IsSilent ReadFault = Unit {0}
IsSilent Refused = Unit {0}
IsSilent WriteFault = ⊥
IsSilent NoMemory = Unit {0}

-- the text is the line that an edition of the program tells of a status that is no end, and its cause holds;
-- `rose file` says that the count of faults of a file has risen, and `asks line n` that the desk was asked for no more
-- than the first n files of a line
abbrev pub IsFaultLineBy : Printed → Files → (List ℕ → Type 0) → (Line → ℕ → Type 0) → Option Line → Status → List ℕ
    → Type 0
IsFaultLineBy printed files rose asks denoted Done text = ⊥
IsFaultLineBy printed files rose asks denoted Rejected text = ⊥
IsFaultLineBy printed files rose asks denoted Usage text = text ≡ printed.usage
IsFaultLineBy printed files rose asks denoted ReadFault text =
    (line : Line) × (k : ℕ) × (denoted ≡ Some line) × (k < length (files_of line))
    × rose (file_at line k) × (text ≡ read_line (file_at line k)) × asks line (suc k)
IsFaultLineBy printed files rose asks denoted Refused text =
    (line : Line) × (denoted ≡ Some line) × RefusesWithBy printed.limits files line text
IsFaultLineBy printed files rose asks denoted WriteFault text = text ≡ write_line
IsFaultLineBy printed files rose asks denoted NoMemory text = text ≡ memory_line

-- the same where all is printed as it stands
abbrev pub IsFaultLine : Files → (List ℕ → Type 0) → (Line → ℕ → Type 0) → Option Line → Status → List ℕ → Type 0
IsFaultLine = IsFaultLineBy as_stated
