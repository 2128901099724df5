-- How a call of a program over files in memory ends, by what the program means. The frame alone decides it, but for want
-- of memory (this project's own statuses).
use Rattle.std.specs.Prelude.{◌≡◌, ◌⊎◌, ◌<◌, ◌≤◌, ℕ, List, [], ◌∷◌, Option, Some, None, codes, length}
use Rattle.std.specs.Prelude.{slice_index_or}
use Rattle.rp_outside.specs.Files.{bytes_under}
use Rattle.rp_frame.specs.Frames.{Frame, Request, request_in}
use Rattle.rp_frame.specs.Given.{AreGiven, IsFirstMissing}
use Rattle.rp_frame.specs.Handed.{IsText}
use Rattle.rp_frame.specs.Rooms.{filled}
use Rattle.rp_front.specs.Contents.{AnswersWith, Files, IsAccepted, IsRefused, RefusesWith}
use Rattle.rp_front.specs.Endings.{IsEnd, status_number}
use Rattle.rp_front.specs.Lines.{memory_line, read_line}
use Rattle.rp_front.specs.Meaning.{Meaning}
use Rattle.rp_front.specs.declared.status.Status.{Status}
use Rattle.rp_front.specs.declared.status.Status.TheVariants.{Done, Rejected, Usage, ReadFault, Refused, WriteFault}
use Rattle.rp_front.specs.declared.status.Status.TheVariants.{NoMemory}
use Rattle.rp_front_call.specs.declared.ending.Ending.{Ending}
use Rattle.rp_front_call.specs.declared.ending.Ending.TheVariants.{Ran, NoText, Malformed}

-- what the words of a request ask, after the program's name
abbrev pub asked_of : (m : Meaning) → Request → Option m.Asked
asked_of m request = m.asked_in (codes "rp" ∷ request.words)

-- the bytes of each file that is given
abbrev pub given_files : Request → Files
given_files request = bytes_under request.files

-- a request asks so, and no more files are given than it names
pub record Asks (m : Meaning) (request : Request) (a : m.Asked) : Type 0 where
  pub asked : asked_of m request ≡ Some a
  pub few : length request.files ≤ length (m.files_of a)

-- the text of an answer with this status is written whole, with what is told beside
pub record IsWritten (m : Meaning) (request : Request) (status : Status) (text told : List ℕ) : Type 0 where
  pub question : m.Asked
  pub asks : Asks m request question
  pub given : AreGiven request.files (m.files_of question)
  pub written : AnswersWith m (given_files request) question status text told

-- the words of a request are none that the program takes, and the usage is told
pub record IsUsage (m : Meaning) (request : Request) (text told : List ℕ) : Type 0 where
  pub no_question : asked_of m request ≡ None
  pub silent : text ≡ []
  pub tells : told ≡ m.usage

-- a file that is asked for is not given, and the first such one is told
pub record IsUnread (m : Meaning) (request : Request) (text told : List ℕ) : Type 0 where
  pub question : m.Asked
  pub asks : Asks m request question
  pub place : ℕ
  pub first : IsFirstMissing request.files (m.files_of question) place
  pub silent : text ≡ []
  pub tells : told ≡ read_line m.name (slice_index_or (m.files_of question) place [])

-- what the files hold is refused with the line that is told
pub record IsRefusal (m : Meaning) (request : Request) (text told : List ℕ) : Type 0 where
  pub question : m.Asked
  pub asks : Asks m request question
  pub given : AreGiven request.files (m.files_of question)
  pub silent : text ≡ []
  pub refuses : RefusesWith m (given_files request) question told

-- a status of a request, with what is written and what is told: its cause holds
abbrev pub IsStatusOf : Meaning → Request → Status → List ℕ → List ℕ → Type 0
IsStatusOf m request Done text told = IsWritten m request Done text told
IsStatusOf m request Rejected text told = IsWritten m request Rejected text told
IsStatusOf m request Usage text told = IsUsage m request text told
IsStatusOf m request ReadFault text told = IsUnread m request text told
IsStatusOf m request Refused text told = IsRefusal m request text told
IsStatusOf m request WriteFault text told = ⊥
IsStatusOf m request NoMemory text told = ⊥

-- more files are given than the words name
pub record HasTooMany (m : Meaning) (request : Request) : Type 0 where
  pub question : m.Asked
  pub asked : asked_of m request ≡ Some question
  pub many : length (m.files_of question) < length request.files

-- a frame holds a request whose words and names are text
pub record Requests (frame : Frame) (request : Request) : Type 0 where
  pub held : request_in frame ≡ Some request
  pub text : IsText request

-- memory ran out
pub record IsOutOfMemory (m : Meaning) (text told : List ℕ) : Type 0 where
  pub silent : text ≡ []
  pub tells : told ≡ memory_line m.name

-- the status of a frame's request
pub record IsStatusIn (m : Meaning) (frame : Frame) (status : Status) (text told : List ℕ) : Type 0 where
  pub request : Request
  pub requests : Requests frame request
  pub is_status : IsStatusOf m request status text told

-- the status of a call that was run: memory ran out, or it is that of the frame's request
abbrev pub IsRunOf : Meaning → Frame → Status → List ℕ → List ℕ → Type 0
IsRunOf m frame NoMemory text told = IsOutOfMemory m text told
IsRunOf m frame status text told = IsStatusIn m frame status text told

-- a word of the frame's request, or a name of a file, is no text
pub record HasNoText (frame : Frame) : Type 0 where
  pub request : Request
  pub held : request_in frame ≡ Some request
  pub no_text : ¬ IsText request

-- the parts of a frame do not fit together, or it has more files than its words name
abbrev pub IsMalformed : Meaning → Frame → Type 0
IsMalformed m frame =
    (request_in frame ≡ None) ⊎ ((request : Request) × Requests frame request × HasTooMany m request)

-- how a call ends, with what is written and what is told
abbrev pub IsEndingOf : Meaning → Frame → Ending → List ℕ → List ℕ → Type 0
IsEndingOf m frame (Ran status) text told = IsRunOf m frame status text told
IsEndingOf m frame NoText text told = HasNoText frame × (text ≡ []) × (told ≡ [])
IsEndingOf m frame Malformed text told = IsMalformed m frame × (text ≡ []) × (told ≡ [])

-- a call ends so: the texts of its ending stand at the front of the caller's rooms, as much of each as has place, and
-- the two numbers tell how long the texts are
pub record EndsSo (m : Meaning) (frame : Frame) (ending : Ending) (output_old output_new : List ℕ)
    (output_length : ℕ) (told_old told_new : List ℕ) (told_length : ℕ) : Type 0 where
  pub text : List ℕ
  pub told : List ℕ
  pub ends : IsEndingOf m frame ending text told
  pub output_kept : output_new ≡ filled output_old text
  pub output_counted : output_length ≡ length text
  pub told_kept : told_new ≡ filled told_old told
  pub told_counted : told_length ≡ length told

-- an ending, or want of memory
abbrev pub OrNoMemory : Ending → Ending → Type 0
OrNoMemory wanted ending = (ending ≡ wanted) ⊎ (ending ≡ Ran NoMemory)

-- there is an answer, or memory ran out
abbrev pub HasAnswer : Ending → Type 0
HasAnswer (Ran status) = IsEnd status ⊎ (status ≡ NoMemory)
HasAnswer NoText = ⊥
HasAnswer Malformed = ⊥

-- which ending comes, but for want of memory
pub record IsDecided (m : Meaning) (frame : Frame) (ending : Ending) : Type 0 where
  pub malformed : request_in frame ≡ None → OrNoMemory Malformed ending
  pub no_text : (request : Request) → request_in frame ≡ Some request → ¬ IsText request → OrNoMemory NoText ending
  pub no_question : (request : Request) → Requests frame request → asked_of m request ≡ None
      → OrNoMemory (Ran Usage) ending
  pub too_many : (request : Request) (a : m.Asked) → Requests frame request → asked_of m request ≡ Some a
      → length (m.files_of a) < length request.files → OrNoMemory Malformed ending
  pub missing : (request : Request) (a : m.Asked) (k : ℕ) → Requests frame request → Asks m request a
      → IsFirstMissing request.files (m.files_of a) k → OrNoMemory (Ran ReadFault) ending
  pub refused : (request : Request) (a : m.Asked) → Requests frame request → Asks m request a
      → AreGiven request.files (m.files_of a) → IsRefused m (given_files request) a
      → OrNoMemory (Ran Refused) ending
  pub accepted : (request : Request) (a : m.Asked) → Requests frame request → Asks m request a
      → AreGiven request.files (m.files_of a) → IsAccepted m (given_files request) a → HasAnswer ending

-- the number of each ending
abbrev pub ending_number : Ending → ℕ
ending_number (Ran status) = status_number status
ending_number NoText = 7
ending_number Malformed = 8
