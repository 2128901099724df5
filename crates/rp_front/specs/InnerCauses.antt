-- Why there is no answer, as the code says it: what each cause stands for, its status and its line.
use Rattle.std.specs.Prelude.{◌≡◌, ℕ, List}
use Rattle.rp_front.specs.Contents.{Files, RefusesWith, file_at}
use Rattle.rp_front.specs.Endings.{IsUnread}
use Rattle.rp_front.specs.Lines.{memory_line, read_line}
use Rattle.rp_front.specs.Meaning.{Meaning}
use Rattle.rp_front.specs.declared.answer.Cause.{Cause}
use Rattle.rp_front.specs.declared.answer.Cause.TheVariants.{Read, Refused, NoMemory}
use Rattle.rp_front.specs.declared.status.Status.{Status}
use Rattle.rp_front.specs.declared.status.Status.TheVariants as status

abbrev pub status_of_cause : Cause → Status
status_of_cause (Read file) = status.ReadFault
status_of_cause (Refused line) = status.Refused
status_of_cause NoMemory = status.NoMemory

abbrev pub cause_line : List ℕ → Cause → List ℕ
cause_line program (Read file) = read_line program file.now
cause_line program (Refused line) = line.items
cause_line program NoMemory = memory_line program

-- why what is asked has no answer: a file of it could not be read, or some content of its files is refused. `rose file`
-- says that the count of faults of a file has risen, and `asks n` that the desk was asked for no more than the first n
-- files
abbrev pub IsCause : (m : Meaning) → Files → (List ℕ → Type 0) → (ℕ → Type 0) → m.Asked → Cause → Type 0
IsCause m files rose asks a (Read file) =
    (k : ℕ) × IsUnread m files rose asks a k × (file.now ≡ file_at m a k)
IsCause m files rose asks a (Refused line) = RefusesWith m files a line.items
IsCause m files rose asks a NoMemory = Unit {0}
