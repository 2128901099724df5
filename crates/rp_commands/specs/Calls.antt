-- What a call of the program promises, by what it concerns. Each field is a clause of `run`; `run_surely` states those
-- that speak of no failure, and what stays, over counts of faults that are 0.
use Rattle.std.specs.Prelude.{◌≡◌, ◌⊎◌, ◌≤◌, ℕ, List, Option, Some, None}
use Rattle.rp_outside.specs.Asked.{KeepsReads, Reads}
use Rattle.rp_outside.specs.Faults.{EachStays, HasRisen, NoneFalls}
use Rattle.rp_outside.specs.Known.{Stays, Grows, GrowsByPrefix}
use Rattle.rp_command_line.specs.CommandLine.{Line}
use Rattle.rp_answers.specs.Printed.{Printed, as_stated}
use Rattle.rp_answers.specs.declared.choice_limits.ChoiceLimits.{ChoiceLimits}
use Rattle.rp_answers.specs.declared.status.Status.{Status}
use Rattle.rp_answers.specs.declared.status.Status.TheVariants.{Done, Rejected, Usage, WriteFault, NoMemory}
use Rattle.rp_commands.specs.Answers.{AnswersDenotedBy, Files, IsAcceptedOver, IsRejectedOver, MayBeBy, MustBeBy}
use Rattle.rp_commands.specs.Endings.{IsEnd, IsFaultLineBy, IsSilent}
use Rattle.rp_commands.specs.Gains.{Gains}
use Rattle.rp_commands.specs.AskedInTurn.{AreAskedInTurn}
use Rattle.rp_commands.specs.Turns.{AreReadInTurn}

-- the usage answers words that are no line, and no others
pub record AnswersUsage (denoted : Option Line) (result : Status) : Type 0 where
  pub usage : result ≡ Usage → denoted ≡ None
  pub no_line : denoted ≡ None → (result ≡ Usage) ⊎ (result ≡ NoMemory)

-- the answer of an edition of the program, and what the output gains: `old` and `new` are its known bytes before and
-- after, and the last two its counts of faults
pub record IsWrittenBy (printed : Printed) (files : Files) (denoted : Option Line) (result : Status)
    (old new : Option (List ℕ)) (before after : ℕ) : Type 0 where
  pub answered : IsEnd result → (text : List ℕ) × AnswersDenotedBy printed files denoted result text
      × Grows old new text
  pub cut_short : result ≡ WriteFault → (s : Status) × (text : List ℕ)
      × AnswersDenotedBy printed files denoted s text × GrowsByPrefix old new text
  pub silent : IsSilent result → Stays old new
  pub write_counted : result ≡ WriteFault → HasRisen before after

-- the same where all is printed as it stands
abbrev pub IsWritten : Files → Option Line → Status → Option (List ℕ) → Option (List ℕ) → ℕ → ℕ → Type 0
IsWritten = IsWrittenBy as_stated

-- the checker's verdict on a certificate, by the limits of choices
pub record GivesCheckVerdictBy (limits : ChoiceLimits) (files : Files) (denoted : Option Line) (result : Status)
    : Type 0 where
  pub rejected : result ≡ Rejected → (line : Line) × (denoted ≡ Some line) × MayBeBy limits IsRejectedOver files line
  pub never_done : (line : Line) → denoted ≡ Some line → MustBeBy limits IsRejectedOver files line
      → ¬ (result ≡ Done)
  pub never_rejected : (line : Line) → denoted ≡ Some line → MustBeBy limits IsAcceptedOver files line
      → ¬ (result ≡ Rejected)

-- the same by those of the program that prints all as it stands
abbrev pub GivesCheckVerdict : Files → Option Line → Status → Type 0
GivesCheckVerdict = GivesCheckVerdictBy as_stated.limits

-- why there is no answer, and what standard error gains, by its known bytes and its counts of faults. `rose file` says
-- that the count of faults of a file has risen, and `asks line n` that the desk was asked for no more than the first n
-- files of a line
pub record TellsWhyBy (printed : Printed) (files : Files) (rose : List ℕ → Type 0) (asks : Line → ℕ → Type 0)
    (denoted : Option Line) (result : Status) (old new : Option (List ℕ)) (before after : ℕ) : Type 0 where
  pub quiet : IsEnd result → Stays old new
  pub told : ¬ IsEnd result → (line : List ℕ)
      × IsFaultLineBy printed files rose asks denoted result line × Gains old new before after line

abbrev pub TellsWhy : Files → (List ℕ → Type 0) → (Line → ℕ → Type 0) → Option Line → Status
    → Option (List ℕ) → Option (List ℕ) → ℕ → ℕ → Type 0
TellsWhy = TellsWhyBy as_stated

-- how often the desk is asked for the files of the words, and in which order, from its count of calls before to that
-- after
pub record AsksInTurn (files : Files) (before after : ℕ) (denoted : Option Line) : Type 0 where
  pub in_turn : (line : Line) → denoted ≡ Some line → AreReadInTurn files before after line
  pub none_asked : denoted ≡ None → after ≡ before

-- for which names the desk is asked, in which order, and each of them once, by the reads that it tells before and after
pub record AsksByName (files : Files) (before after : Option Reads) (denoted : Option Line) : Type 0 where
  pub by_name : (line : Line) → denoted ≡ Some line → AreAskedInTurn files before after line
  pub no_name : denoted ≡ None → KeepsReads before after

-- what stays: the bytes of every file are what they were, and no count of faults falls, of a file, of the output or of
-- standard error, from those before to those after
pub record LeavesTheRest (files later : Files) (before after : List ℕ → ℕ) (out_before out_after : ℕ)
    (err_before err_after : ℕ) : Type 0 where
  pub bytes_stay : EachStays files later
  pub faults_of_files : NoneFalls before after
  pub faults_of_out : out_before ≤ out_after
  pub faults_of_err : err_before ≤ err_after
