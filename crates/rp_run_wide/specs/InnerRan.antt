-- What a call of `run_wide` in memory leaves, and what is handed on of it (for the functions between).
use Rattle.std.specs.Prelude.{◌≡◌, ◌⊎◌, ◌≤◌, ℕ, List, [], ◌∷◌, ◌++◌, Some}
use Rattle.clap.specs.Faults.{fault_of}
use Rattle.rp_outside.specs.Faults.{EachStays, HasRisen, NoneFalls}
use Rattle.rp_outside.specs.Known.{Stays, Grows, GrowsByPrefix}
use Rattle.rp_guide.specs.Codes.{note_code}
use Rattle.rp_guide.specs.Hints.{note_line}
use Rattle.rp_command_line.specs.CommandLine.{Line}
use Rattle.rp_command_line.specs.Commands.{program}
use Rattle.rp_command_line.specs.Shapes.{HasShape, shape_of}
use Rattle.rp_command_line.specs.Words.{denoted_line}
use Rattle.rp_answers.specs.declared.status.Status.{Status}
use Rattle.rp_answers.specs.declared.status.Status.TheVariants.{Usage, Refused, WriteFault, NoMemory}
use Rattle.rp_commands.specs.Answers.{AnswersDenotedBy, IsAcceptedBy, IsRefusedBy}
use Rattle.rp_commands.specs.Calls.{AnswersUsage, AsksByName, AsksInTurn, GivesCheckVerdictBy}
use Rattle.rp_commands.specs.Endings.{IsEnd, IsFaultLineBy, NoneRose, Rose}
use Rattle.rp_commands.specs.FaultLines.{write_line}
use Rattle.rp_commands.specs.Turns.{AsksForFirst}
use Rattle.rp_run_wide.specs.Filling.{as_filled}
use Rattle.rp_guide.specs.Gains.{GainsText, SinkChange}
use Rattle.rp_run_wide.specs.Helping.{DeskChange, as_helped, fit_calls, with_hint}

-- how the desk was asked, whatever the call ended with
pub record LooksOnly (words : List (List ℕ)) (desk : DeskChange) : Type 0 where
  pub shapes : (line : Line) (name : List ℕ) → HasShape line → words ≡ name ∷ shape_of line
      → denoted_line words ≡ Some line
  pub turns : AsksInTurn desk.bytes desk.calls desk.calls_after (denoted_line words)
  pub names : AsksByName desk.bytes desk.asked desk.asked_after (denoted_line words)
  pub bytes_stay : EachStays desk.bytes desk.later
  pub faults_of_files : NoneFalls desk.faults desk.faults_after

-- what is told where `run_wide` told this with that status: its usage text, and then the calls of the commands that it has
-- not, or the same
abbrev pub told_of_all : Status → List ℕ → List ℕ
told_of_all Usage told = told ++ fit_calls
told_of_all _ told = told

-- what was written and told, where memory did not run out
pub record Ran (words : List (List ℕ)) (desk : DeskChange) (status : Status) (text told : List ℕ) : Type 0 where
  pub usage : AnswersUsage (denoted_line words) status
  pub refused_by_clap : status ≡ Usage → ¬ (fault_of program words ≡ [])
  pub answered : IsEnd status → AnswersDenotedBy as_filled desk.bytes (denoted_line words) status text
  pub faulted : ¬ IsEnd status → IsFaultLineBy as_helped desk.bytes (Rose desk.faults desk.faults_after)
      (AsksForFirst desk.bytes desk.calls desk.calls_after) (denoted_line words) status told
  pub written : ¬ (status ≡ WriteFault)
  pub verdict : GivesCheckVerdictBy as_filled.limits desk.bytes (denoted_line words) status
  pub complete : (line : Line) → denoted_line words ≡ Some line → IsAcceptedBy as_filled.limits desk.bytes line
      → NoneRose line desk.faults desk.faults_after → IsEnd status ⊎ (status ≡ NoMemory)
  pub refused : (line : Line) → denoted_line words ≡ Some line → IsRefusedBy as_filled.limits desk.bytes line
      → NoneRose line desk.faults desk.faults_after → (status ≡ Refused) ⊎ (status ≡ NoMemory)

-- what the sinks gain of it
pub record IsDelivered (status : Status) (text told : List ℕ) (result : Status) (out err : SinkChange) : Type 0 where
  pub either : (result ≡ status) ⊎ (IsEnd status × (result ≡ WriteFault))
  pub whole : IsEnd status → result ≡ status → Grows out.old out.new text
      × GainsText err (note_line (note_code text))
  pub part : IsEnd status → result ≡ WriteFault → GrowsByPrefix out.old out.new text
      × HasRisen out.before out.after × GainsText err (with_hint WriteFault write_line)
  pub faulted : ¬ IsEnd status → (result ≡ status) × Stays out.old out.new × GainsText err (with_hint status told)
  pub faults_of_out : out.before ≤ out.after
  pub faults_of_err : err.before ≤ err.after
