-- How a run over files in memory ends, by an edition of the program, in the shape that a call takes it on (for the
-- functions between).
use Rattle.std.specs.Prelude.{◌≡◌, List, [], ◌∷◌, ℕ, Option, Some, None, codes, unwrap_or}
use Rattle.rp_outside.specs.Files.{bytes_under}
use Rattle.rp_command_line.specs.CommandLine.{Line}
use Rattle.rp_commands.specs.Answers.{AnswersLineBy, Files, RefusesWithBy}
use Rattle.rp_commands.specs.FaultLines.{read_line}
use Rattle.rp_frame.specs.Frames.{Request}
use Rattle.rp_call.specs.CallEndings.{IsEnded}
use Rattle.rp_call.specs.declared.ending.Ending.{Ending}
use Rattle.rp_call.specs.declared.ending.Ending.TheVariants.{Ran, NoText, Malformed}
use Rattle.rp_answers.specs.Printed.{Printed}
use Rattle.rp_answers.specs.declared.status.Status.{Status}
use Rattle.rp_answers.specs.declared.status.Status.TheVariants.{Done, Rejected, Usage, ReadFault, Refused, WriteFault}
use Rattle.rp_answers.specs.declared.status.Status.TheVariants.{NoMemory}

-- each of these files, and one that is not among them as empty
abbrev pub known_in : List (List ℕ × List ℕ) → Files
known_in files name = Some (unwrap_or (bytes_under files name) [])

-- a line is answered, and nothing is told
pub record RunAnswers (printed : Printed) (files : Files) (denoted : Option Line) (status : Status) (text told : List ℕ)
    : Type 0 where
  pub line : Line
  pub asked : denoted ≡ Some line
  pub answers : AnswersLineBy printed files line status text
  pub quiet : told ≡ []

-- words that are no line
pub record RunTellsUsage (printed : Printed) (denoted : Option Line) (text told : List ℕ) : Type 0 where
  pub no_line : denoted ≡ None
  pub silent : text ≡ []
  pub tells : told ≡ printed.usage

-- a line is refused
pub record RunRefuses (printed : Printed) (files : Files) (denoted : Option Line) (text told : List ℕ) : Type 0 where
  pub line : Line
  pub asked : denoted ≡ Some line
  pub silent : text ≡ []
  pub refuses : RefusesWithBy printed.limits files line told

-- what a run wrote and told, by its status; memory did not run out
abbrev pub IsRun : Printed → Files → Option Line → Status → List ℕ → List ℕ → Type 0
IsRun printed files denoted Done text told = RunAnswers printed files denoted Done text told
IsRun printed files denoted Rejected text told = RunAnswers printed files denoted Rejected text told
IsRun printed files denoted Usage text told = RunTellsUsage printed denoted text told
IsRun printed files denoted ReadFault text told = ⊥
IsRun printed files denoted Refused text told = RunRefuses printed files denoted text told
IsRun printed files denoted WriteFault text told = ⊥
IsRun printed files denoted NoMemory text told = ⊥

-- a call ends as a run
abbrev pub EndsAsRun : Printed → Files → Option Line → Ending → List ℕ → List ℕ → Type 0
EndsAsRun printed files denoted (Ran status) text told = IsRun printed files denoted status text told
EndsAsRun printed files denoted NoText text told = ⊥
EndsAsRun printed files denoted Malformed text told = ⊥

-- a file is told not to be given
pub record TellsUnread (file : List ℕ) (ending : Ending) (text told : List ℕ) : Type 0 where
  pub ends : ending ≡ Ran ReadFault
  pub silent : text ≡ []
  pub tells : told ≡ read_line file

-- an ending of these words and files, where a request has them
pub record EndsFor (printed : Printed) (words : List (List ℕ)) (files : List (List ℕ × List ℕ)) (ending : Ending)
    (text told : List ℕ) : Type 0 where
  pub ended : (request : Request) → words ≡ codes "rp" ∷ request.words → files ≡ request.files
      → IsEnded printed request ending text told
