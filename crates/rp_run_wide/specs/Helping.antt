-- What a call of the program `rp-wide` promises: of words that ask for a page, and of all others. `DeskChange` has
-- what the files were before the call and what they are after it.
use Rattle.std.specs.Prelude.{◌≡◌, ◌⊎◌, ◌++◌, ℕ, Bool, List, [], ◌∷◌, Option, Some, codes, if◌then◌else◌}
use Rattle.clap.specs.Faults.{fault_of}
use Rattle.rp_outside.specs.Asked.{Reads}
use Rattle.rp_outside.specs.Faults.{HasRisen}
use Rattle.rp_guide.specs.Codes.{code_of_line, note_code}
use Rattle.rp_guide.specs.Gains.{GainsText, IsPageGiven, SinkChange}
use Rattle.rp_guide.specs.Hints.{hint_line, note_line}
use Rattle.rp_command_line.specs.CommandLine.{Line}
use Rattle.rp_command_line.specs.Commands.{program}
use Rattle.rp_command_line.specs.Shapes.{HasShape, shape_of}
use Rattle.rp_command_line.specs.Words.{denoted_line}
use Rattle.rp_answers.specs.declared.status.Status.{Status}
use Rattle.rp_answers.specs.declared.status.Status.TheVariants.{Done, Rejected, Usage, ReadFault, Refused, WriteFault}
use Rattle.rp_answers.specs.declared.status.Status.TheVariants.{NoMemory}
use Rattle.rp_commands.specs.Answers.{AnswersDenotedBy, Files, IsAcceptedBy, IsRefusedBy}
use Rattle.rp_commands.specs.Calls.{AnswersUsage, AsksByName, AsksInTurn, GivesCheckVerdictBy, IsWrittenBy, LeavesTheRest}
use Rattle.rp_commands.specs.Endings.{IsEnd, IsFaultLineBy, NoneRose, Rose}
use Rattle.rp_commands.specs.FaultLines.{write_line}
use Rattle.rp_commands.specs.Turns.{AsksForFirst}
use Rattle.rp_answers.specs.Printed.{Printed}
use Rattle.rp_run_wide.specs.Filling.{as_filled}

-- the known bytes of each file, their counts of faults, the count of calls, and the known reads
pub record DeskChange : Type 0 where
  pub bytes : Files
  pub later : Files
  pub faults : List ℕ → ℕ
  pub faults_after : List ℕ → ℕ
  pub calls : ℕ
  pub calls_after : ℕ
  pub asked : Option Reads
  pub asked_after : Option Reads

-- the code by which the hint for a status is found: that of the line where data are refused
abbrev pub status_code : Status → List ℕ → List ℕ
status_code Done line = []
status_code Rejected line = []
status_code Usage line = codes "Usage"
status_code ReadFault line = codes "ReadFault"
status_code Refused line = code_of_line line
status_code WriteFault line = codes "WriteFault"
status_code NoMemory line = codes "NoMemory"

-- what is told of a status that is no end: its line, and then the line of its hint
abbrev pub with_hint : Status → List ℕ → List ℕ
with_hint status line = line ++ hint_line (status_code status line)

-- how the commands of `run_fit` are called, in the usage text
abbrev pub fit_calls : List ℕ
fit_calls =
    codes "       rp-wide fit TABLE [--json]" ++ 10 ∷ codes "       rp-wide checkfit TABLE CERT" ++ 10
    ∷ codes "       rp-wide random BUDGETS CHOICES --steps N [--per N] [--json]" ++ 10 ∷ []

-- what `run_wide` prints, with a usage text that has these commands too
abbrev pub as_helped : Printed
as_helped = record {
  of_certificate = as_filled.of_certificate;
  of_costs = as_filled.of_costs;
  of_trial = as_filled.of_trial;
  usage = as_filled.usage ++ fit_calls;
  limits = as_filled.limits;
}

-- a page answers the words, or could not be written whole
abbrev pub GivesPage : List ℕ → Status → SinkChange → SinkChange → Type 0
GivesPage text result out err =
    (done : Bool) × (result ≡ (if done then Done else WriteFault)) × IsPageGiven text write_line done out err

-- why there is no answer, as `run` tells it, where the usage text has all commands, and then the hint; and beside an answer
-- a note where it needs one
pub record TellsWithHint (desk : DeskChange) (denoted : Option Line) (result : Status) (err : SinkChange) : Type 0 where
  pub noted : IsEnd result → (text : List ℕ) × AnswersDenotedBy as_filled desk.bytes denoted result text
      × GainsText err (note_line (note_code text))
  pub told : ¬ IsEnd result → (line : List ℕ)
      × IsFaultLineBy as_helped desk.bytes (Rose desk.faults desk.faults_after)
      (AsksForFirst desk.bytes desk.calls desk.calls_after) denoted result line
      × GainsText err (with_hint result line)

-- the clauses of `run_wide`, of which only the one on standard error is another
pub record AnswersWithHints (words : List (List ℕ)) (desk : DeskChange) (result : Status) (out err : SinkChange)
    : Type 0 where
  pub usage : AnswersUsage (denoted_line words) result
  pub refused_by_clap : result ≡ Usage → ¬ (fault_of program words ≡ [])
  pub shapes : (line : Line) (name : List ℕ) → HasShape line → words ≡ name ∷ shape_of line
      → denoted_line words ≡ Some line
  pub written : IsWrittenBy as_filled desk.bytes (denoted_line words) result out.old out.new out.before out.after
  pub verdict : GivesCheckVerdictBy as_filled.limits desk.bytes (denoted_line words) result
  pub why : TellsWithHint desk (denoted_line words) result err
  pub turns : AsksInTurn desk.bytes desk.calls desk.calls_after (denoted_line words)
  pub names : AsksByName desk.bytes desk.asked desk.asked_after (denoted_line words)
  pub complete : (line : Line) → denoted_line words ≡ Some line → IsAcceptedBy as_filled.limits desk.bytes line
      → NoneRose line desk.faults desk.faults_after → ¬ HasRisen out.before out.after
      → IsEnd result ⊎ (result ≡ NoMemory)
  pub refused : (line : Line) → denoted_line words ≡ Some line → IsRefusedBy as_filled.limits desk.bytes line
      → NoneRose line desk.faults desk.faults_after → (result ≡ Refused) ⊎ (result ≡ NoMemory)
  pub stays : LeavesTheRest desk.bytes desk.later desk.faults desk.faults_after out.before out.after
      err.before err.after
