-- How a call of a program ends: the statuses with an answer, those that leave the output as it was, and the line on
-- standard error with its cause.
use Rattle.std.specs.Prelude.{◌≡◌, ◌<◌, ℕ, suc, List, [], Option, Some, Contains, codes, length}
use Rattle.rp_guide.specs.Codes.{code_of_line}
use Rattle.rp_outside.specs.Faults.{HasRisen}
use Rattle.rp_front.specs.Contents.{Files, ReadsOn, RefusesWith, file_at}
use Rattle.rp_front.specs.Lines.{memory_line, read_line}
use Rattle.rp_front.specs.Meaning.{Meaning}
use Rattle.rp_front.specs.declared.status.Status.{Status}
use Rattle.rp_front.specs.declared.status.Status.TheVariants.{Done, Rejected, Usage, ReadFault, Refused, WriteFault}
use Rattle.rp_front.specs.declared.status.Status.TheVariants.{NoMemory}

-- the count of faults of a file has risen, from the counts before to those after
abbrev pub Rose : (List ℕ → ℕ) → (List ℕ → ℕ) → List ℕ → Type 0
Rose before after file = HasRisen (before file) (after file)

-- that of none of the files of what is asked has
abbrev pub NoneRose : (m : Meaning) → m.Asked → (List ℕ → ℕ) → (List ℕ → ℕ) → Type 0
NoneRose m a before after = (file : List ℕ) → Contains (m.files_of a) file → ¬ Rose before after file

-- the whole answer went out
abbrev pub IsEnd : Status → Type 0
IsEnd Done = Unit {0}
IsEnd Rejected = Unit {0}
IsEnd Usage = ⊥
IsEnd ReadFault = ⊥
IsEnd Refused = ⊥
IsEnd WriteFault = ⊥
IsEnd NoMemory = ⊥

-- nothing went to the output
abbrev pub IsSilent : Status → Type 0
IsSilent Done = ⊥
IsSilent Rejected = ⊥
IsSilent Usage = Unit {0}
IsSilent ReadFault = Unit {0}
IsSilent Refused = Unit {0}
IsSilent WriteFault = ⊥
IsSilent NoMemory = Unit {0}

-- the k-th file of what is asked could not be read: its count of faults has risen, it was asked for after some content
-- of those before it that nothing refuses, and none was asked for after it; `asks n` says that the desk was asked for
-- no more than the first n files
pub record IsUnread (m : Meaning) (files : Files) (rose : List ℕ → Type 0) (asks : ℕ → Type 0) (a : m.Asked)
    (k : ℕ) : Type 0 where
  pub within : k < length (m.files_of a)
  pub risen : rose (file_at m a k)
  pub after_those : ReadsOn m files a k
  pub none_after : asks (suc k)

-- the text is the line that is told where nothing goes to the output, and its cause holds; `rose file` says that the
-- count of faults of a file has risen, and `asks a n` that the desk was asked for no more than the first n files
abbrev pub IsFaultLine : (m : Meaning) → Files → (List ℕ → Type 0) → (m.Asked → ℕ → Type 0) → Option m.Asked → Status
    → List ℕ → Type 0
IsFaultLine m files rose asks asked Done text = ⊥
IsFaultLine m files rose asks asked Rejected text = ⊥
IsFaultLine m files rose asks asked Usage text = text ≡ m.usage
IsFaultLine m files rose asks asked ReadFault text = (a : m.Asked) × (k : ℕ) × (asked ≡ Some a)
    × IsUnread m files rose (asks a) a k × (text ≡ read_line m.name (file_at m a k))
IsFaultLine m files rose asks asked Refused text = (a : m.Asked) × (asked ≡ Some a) × RefusesWith m files a text
IsFaultLine m files rose asks asked WriteFault text = ⊥
IsFaultLine m files rose asks asked NoMemory text = text ≡ memory_line m.name

-- the code by which the hint for a status is found, where its line is this
abbrev pub status_code : Status → List ℕ → List ℕ
status_code Done line = []
status_code Rejected line = []
status_code Usage line = codes "Usage"
status_code ReadFault line = codes "ReadFault"
status_code Refused line = code_of_line line
status_code WriteFault line = codes "WriteFault"
status_code NoMemory line = codes "NoMemory"

-- the number of each status
abbrev pub status_number : Status → ℕ
status_number Done = 0
status_number Rejected = 1
status_number Usage = 2
status_number ReadFault = 3
status_number Refused = 4
status_number WriteFault = 5
status_number NoMemory = 6
