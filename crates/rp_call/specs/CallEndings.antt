-- How a call over files in memory ends, by an edition of the program, which prints so. The frame alone decides it, but
-- for want of memory (this program's own statuses).
use Rattle.std.specs.Prelude.{◌≡◌, ◌⊎◌, ◌<◌, ◌≤◌, ℕ, List, [], ◌∷◌, Option, Some, None, codes, length}
use Rattle.rp_frame.specs.Frames.{Frame, Request, request_in}
use Rattle.rp_frame.specs.Given.{AreGiven, IsFirstMissing}
use Rattle.rp_frame.specs.Handed.{IsText}
use Rattle.rp_frame.specs.Rooms.{filled}
use Rattle.rp_outside.specs.Files.{bytes_under}
use Rattle.rp_command_line.specs.CommandLine.{Line, file_at, files_of}
use Rattle.rp_command_line.specs.Words.{denoted_line}
use Rattle.rp_commands.specs.Answers.{AnswersLineBy, Files, IsAcceptedBy, IsRefusedBy, RefusesWithBy}
use Rattle.rp_commands.specs.Endings.{IsEnd}
use Rattle.rp_commands.specs.FaultLines.{memory_line, read_line}
use Rattle.rp_answers.specs.Printed.{Printed, as_stated}
use Rattle.rp_answers.specs.StatusNumbers.{status_number}
use Rattle.rp_answers.specs.declared.status.Status.{Status}
use Rattle.rp_answers.specs.declared.status.Status.TheVariants.{Done, Rejected, Usage, ReadFault, Refused, WriteFault}
use Rattle.rp_answers.specs.declared.status.Status.TheVariants.{NoMemory}
use Rattle.rp_call.specs.declared.ending.Ending.{Ending}
use Rattle.rp_call.specs.declared.ending.Ending.TheVariants.{Ran, NoText, Malformed}

-- the line that the words of a request denote, after the program's name
abbrev pub asked_of : Request → Option Line
asked_of request = denoted_line (codes "rp" ∷ request.words)

-- the bytes of each file that is given
abbrev pub given_files : Request → Files
given_files request = bytes_under request.files

-- the line of a request, of which no more files are given than it names
pub record Asks (request : Request) (line : Line) : Type 0 where
  pub asked : asked_of request ≡ Some line
  pub few : length request.files ≤ length (files_of line)

-- the line of a request is answered: the whole text is written, and nothing is told
pub record IsAnswered (printed : Printed) (request : Request) (status : Status) (text told : List ℕ) : Type 0 where
  pub line : Line
  pub asks : Asks request line
  pub given : AreGiven request.files (files_of line)
  pub answers : AnswersLineBy printed (given_files request) line status text
  pub quiet : told ≡ []

-- the words of a request are no line, and the usage is told
pub record IsUsage (printed : Printed) (request : Request) (text told : List ℕ) : Type 0 where
  pub no_line : asked_of request ≡ None
  pub silent : text ≡ []
  pub tells : told ≡ printed.usage

-- a file of the line is not given, and the first such one is told
pub record IsUnread (request : Request) (text told : List ℕ) : Type 0 where
  pub line : Line
  pub asks : Asks request line
  pub place : ℕ
  pub first : IsFirstMissing request.files (files_of line) place
  pub silent : text ≡ []
  pub tells : told ≡ read_line (file_at line place)

-- what the files hold is refused with the line that is told
pub record IsRefusal (printed : Printed) (request : Request) (text told : List ℕ) : Type 0 where
  pub line : Line
  pub asks : Asks request line
  pub given : AreGiven request.files (files_of line)
  pub silent : text ≡ []
  pub refuses : RefusesWithBy printed.limits (given_files request) line told

-- a status of a request, with what is written and what is told: its cause holds
abbrev pub IsStatusOf : Printed → Request → Status → List ℕ → List ℕ → Type 0
IsStatusOf printed request Done text told = IsAnswered printed request Done text told
IsStatusOf printed request Rejected text told = IsAnswered printed request Rejected text told
IsStatusOf printed request Usage text told = IsUsage printed request text told
IsStatusOf printed request ReadFault text told = IsUnread request text told
IsStatusOf printed request Refused text told = IsRefusal printed request text told
IsStatusOf printed request WriteFault text told = ⊥
IsStatusOf printed request NoMemory text told = ⊥

-- more files are given than the line of the words names
pub record HasTooMany (request : Request) : Type 0 where
  pub line : Line
  pub asked : asked_of request ≡ Some line
  pub many : length (files_of line) < length request.files

-- a frame holds a request whose words and names are text
pub record Requests (frame : Frame) (request : Request) : Type 0 where
  pub held : request_in frame ≡ Some request
  pub text : IsText request

-- memory ran out
pub record IsOutOfMemory (text told : List ℕ) : Type 0 where
  pub silent : text ≡ []
  pub tells : told ≡ memory_line

-- the status of a call that was run: memory ran out, or it is that of the frame's request
abbrev pub IsRunOf : Printed → Frame → Status → List ℕ → List ℕ → Type 0
IsRunOf printed frame NoMemory text told = IsOutOfMemory text told
IsRunOf printed frame status text told =
    (request : Request) × Requests frame request × IsStatusOf printed request status text told

-- a word of the frame's request, or a name of a file, is no text
pub record HasNoText (frame : Frame) : Type 0 where
  pub request : Request
  pub held : request_in frame ≡ Some request
  pub no_text : ¬ IsText request

-- the parts of a frame do not fit together, or it has more files than its words name
abbrev pub IsMalformed : Frame → Type 0
IsMalformed frame =
    (request_in frame ≡ None) ⊎ ((request : Request) × Requests frame request × HasTooMany request)

-- how a call ends, with what is written and what is told
abbrev pub IsEndingOf : Printed → Frame → Ending → List ℕ → List ℕ → Type 0
IsEndingOf printed frame (Ran status) text told = IsRunOf printed frame status text told
IsEndingOf printed frame NoText text told = HasNoText frame × (text ≡ []) × (told ≡ [])
IsEndingOf printed frame Malformed text told = IsMalformed frame × (text ≡ []) × (told ≡ [])

-- an ending of words and files that were read, with what is written and what is told
abbrev pub IsEnded : Printed → Request → Ending → List ℕ → List ℕ → Type 0
IsEnded printed request (Ran status) text told = IsStatusOf printed request status text told
IsEnded printed request NoText text told = ⊥
IsEnded printed request Malformed text told = HasTooMany request × (text ≡ []) × (told ≡ [])

-- a call ends so: the texts of its ending stand at the front of the caller's rooms, as much of each as has place, and
-- the two numbers tell how long the texts are
pub record EndsSoBy (printed : Printed) (frame : Frame) (ending : Ending) (output_old output_new : List ℕ)
    (output_length : ℕ) (told_old told_new : List ℕ) (told_length : ℕ) : Type 0 where
  pub text : List ℕ
  pub told : List ℕ
  pub ends : IsEndingOf printed frame ending text told
  pub output_kept : output_new ≡ filled output_old text
  pub output_counted : output_length ≡ length text
  pub told_kept : told_new ≡ filled told_old told
  pub told_counted : told_length ≡ length told

-- the same where all is printed as it stands
abbrev pub EndsSo : Frame → Ending → List ℕ → List ℕ → ℕ → List ℕ → List ℕ → ℕ → Type 0
EndsSo = EndsSoBy as_stated

-- an ending, or want of memory
abbrev pub OrNoMemory : Ending → Ending → Type 0
OrNoMemory wanted ending = (ending ≡ wanted) ⊎ (ending ≡ Ran NoMemory)

-- there is an answer, or memory ran out
abbrev pub HasAnswer : Ending → Type 0
HasAnswer (Ran status) = IsEnd status ⊎ (status ≡ NoMemory)
HasAnswer NoText = ⊥
HasAnswer Malformed = ⊥

-- which ending comes by an edition of the program, but for want of memory
pub record IsDecidedBy (printed : Printed) (frame : Frame) (ending : Ending) : Type 0 where
  pub malformed : request_in frame ≡ None → OrNoMemory Malformed ending
  pub no_text : (request : Request) → request_in frame ≡ Some request → ¬ IsText request → OrNoMemory NoText ending
  pub no_line : (request : Request) → Requests frame request → asked_of request ≡ None
      → OrNoMemory (Ran Usage) ending
  pub too_many : (request : Request) (line : Line) → Requests frame request → asked_of request ≡ Some line
      → length (files_of line) < length request.files → OrNoMemory Malformed ending
  pub missing : (request : Request) (line : Line) (k : ℕ) → Requests frame request → Asks request line
      → IsFirstMissing request.files (files_of line) k → OrNoMemory (Ran ReadFault) ending
  pub refused : (request : Request) (line : Line) → Requests frame request → Asks request line
      → AreGiven request.files (files_of line) → IsRefusedBy printed.limits (given_files request) line
      → OrNoMemory (Ran Refused) ending
  pub accepted : (request : Request) (line : Line) → Requests frame request → Asks request line
      → AreGiven request.files (files_of line) → IsAcceptedBy printed.limits (given_files request) line
      → HasAnswer ending

-- the same where all is printed as it stands
abbrev pub IsDecided : Frame → Ending → Type 0
IsDecided = IsDecidedBy as_stated

-- the number of each ending
abbrev pub ending_number : Ending → ℕ
ending_number (Ran status) = status_number status
ending_number NoText = 7
ending_number Malformed = 8
