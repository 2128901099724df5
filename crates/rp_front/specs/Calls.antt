-- What a call of a program promises, by what it concerns. Each is a clause of `run_program`.
use Rattle.std.specs.Prelude.{◌≡◌, ◌⊎◌, ◌≤◌, ℕ, Bool, List, Option, Some, None, codes}
use Rattle.rp_guide.specs.Gains.{Gains, SinkChange}
use Rattle.rp_outside.specs.Asked.{KeepsReads, Reads}
use Rattle.rp_outside.specs.Faults.{EachStays, HasRisen, NoneFalls}
use Rattle.rp_outside.specs.Known.{Grows, GrowsByPrefix, Stays}
use Rattle.rp_front.specs.AskedInTurn.{AreAskedInTurn}
use Rattle.rp_front.specs.Contents.{AnswersWith, Files}
use Rattle.rp_front.specs.Endings.{IsEnd, IsFaultLine, IsSilent, status_code}
use Rattle.rp_front.specs.Gains.{GainsBoth}
use Rattle.rp_front.specs.Lines.{hinted, write_line}
use Rattle.rp_front.specs.Meaning.{Meaning}
use Rattle.rp_front.specs.Turns.{AreReadInTurn}
use Rattle.rp_front.specs.declared.status.Status.{Status}
use Rattle.rp_front.specs.declared.status.Status.TheVariants.{Usage, WriteFault, NoMemory}

-- the usage answers words that ask nothing, and no others
pub record AnswersUsage {Asked : Type 0} (asked : Option Asked) (result : Status) : Type 0 where
  pub usage : result ≡ Usage → asked ≡ None
  pub no_line : asked ≡ None → (result ≡ Usage) ⊎ (result ≡ NoMemory)

-- a text for the output, and what is told before, answer what words ask
abbrev pub AnswersAsked : (m : Meaning) → Files → Option m.Asked → Status → List ℕ → List ℕ → Type 0
AnswersAsked m files asked s text told = (a : m.Asked) × (asked ≡ Some a) × AnswersWith m files a s text told

-- the answer, and what the output and standard error gain
pub record IsWritten (hints : Bool) (m : Meaning) (files : Files) (asked : Option m.Asked) (result : Status)
    (out err : SinkChange) : Type 0 where
  pub answered : IsEnd result → (text : List ℕ) × (told : List ℕ) × AnswersAsked m files asked result text told
      × Grows out.old out.new text × Gains err.old err.new err.before err.after told
  pub cut_short : result ≡ WriteFault → (s : Status) × (text : List ℕ) × (told : List ℕ)
      × AnswersAsked m files asked s text told × GrowsByPrefix out.old out.new text
      × GainsBoth err.old err.new err.before err.after told
      (hinted hints (codes "WriteFault") (write_line m.name))
  pub silent : IsSilent result → Stays out.old out.new
  pub write_counted : result ≡ WriteFault → HasRisen out.before out.after

-- why there is no answer, and what standard error gains: a line, and its hint where hints are wanted. `rose file` says
-- that the count of faults of a file has risen, and `asks a n` that the desk was asked for no more than the first n
-- files
abbrev pub TellsWhy : Bool → (m : Meaning) → Files → (List ℕ → Type 0) → (m.Asked → ℕ → Type 0) → Option m.Asked
    → Status → SinkChange → Type 0
TellsWhy hints m files rose asks asked result err = IsSilent result → (line : List ℕ)
    × IsFaultLine m files rose asks asked result line
    × Gains err.old err.new err.before err.after (hinted hints (status_code result line) line)

-- how often the desk is asked for the files of the words, and in which order, from its count of calls before to that
-- after
pub record AsksInTurn (m : Meaning) (files : Files) (before after : ℕ) (asked : Option m.Asked) : Type 0 where
  pub in_turn : (a : m.Asked) → asked ≡ Some a → AreReadInTurn m files before after a
  pub none_asked : asked ≡ None → after ≡ before

-- for which names the desk is asked, in which order, and each of them once, by the reads that it tells before and after
pub record AsksByName (m : Meaning) (files : Files) (before after : Option Reads) (asked : Option m.Asked)
    : Type 0 where
  pub by_name : (a : m.Asked) → asked ≡ Some a → AreAskedInTurn m files before after a
  pub no_name : asked ≡ None → KeepsReads before after

-- what stays: the bytes of every file are what they were, and no count of faults falls, of a file, of the output or of
-- standard error
pub record LeavesTheRest (files later : Files) (before after : List ℕ → ℕ) (out err : SinkChange)
    : Type 0 where
  pub bytes_stay : EachStays files later
  pub faults_of_files : NoneFalls before after
  pub faults_of_out : out.before ≤ out.after
  pub faults_of_err : err.before ≤ err.after
