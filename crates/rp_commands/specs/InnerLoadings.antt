-- What reading files of a desk gives, in the one form that all loaders have: what is held, or why nothing is, and what
-- the desk is asked for on the way. A desk is seen by what it says of its files' bytes, of their counts of faults, of
-- its count of calls and of the reads that it was asked for, before and after (this program's own).
use Rattle.std.specs.Prelude.{◌≡◌, ◌≤◌, ℕ, ◌+◌, Bool, true, false, List, [], Option, Result, IfOk, IfErr}
use Rattle.rp_outside.specs.Asked.{AsksAtMostOnce, AsksOnce, Reads}
use Rattle.rp_outside.specs.Faults.{EachStays, NoneFalls}
use Rattle.rp_outside.specs.Reads.{calls_through}
use Rattle.rp_table.specs.Tables.{Observations}
use Rattle.rp_answers.specs.declared.choice_limits.ChoiceLimits.{ChoiceLimits}
use Rattle.rp_command_line.specs.CommandLine.{Line}
use Rattle.rp_commands.specs.Answers.{Files}
use Rattle.rp_commands.specs.InnerCauses.{IsCause, IsLoaded}
use Rattle.rp_commands.specs.Endings.{Rose}
use Rattle.rp_commands.specs.Readings.{Reading}
use Rattle.rp_commands.specs.AskedInTurn.{AreAskedInTurn}
use Rattle.rp_commands.specs.Turns.{AreReadInTurn, AsksForFirst}
use Rattle.rp_commands.specs.declared.files.Cause.{Cause}

-- a table has levels only where the command takes them
abbrev pub MayHaveLevels : Bool → Observations → Type 0
MayHaveLevels true table = Unit {0}
MayHaveLevels false table = table.levels ≡ []

-- one file, of which at most so many bytes are taken, is read through at most once, and gives what it holds by the
-- reading, or why it gives nothing
pub record LoadsFile {D A : Type 0} (bytes : D → Files) (faults : D → List ℕ → ℕ) (calls : D → ℕ)
    (asked : D → Option Reads) (old new : D) (limit : ℕ) (file : List ℕ) (reading : List ℕ → Reading A)
    (result : Result A Cause) : Type 0 where
  pub loaded : IsLoaded (bytes old) (Rose (faults old) (faults new)) file reading result
  pub read_through : calls new ≤ calls old + calls_through limit (bytes old file)
  pub asks_once : IfOk result (λ _. AsksOnce (asked old) (asked new) file)
  pub asks_at_most_once : AsksAtMostOnce (asked old) (asked new) file
  pub bytes_stay : EachStays (bytes old) (bytes new)
  pub never_falls : NoneFalls (faults old) (faults new)

-- the files of a line are read in the order of the words, each whole before the next
pub record ReadsLine {D : Type 0} (bytes : D → Files) (faults : D → List ℕ → ℕ) (calls : D → ℕ)
    (asked : D → Option Reads) (old new : D) (line : Line) : Type 0 where
  pub in_turn : AreReadInTurn (bytes old) (calls old) (calls new) line
  pub by_name : AreAskedInTurn (bytes old) (asked old) (asked new) line
  pub bytes_stay : EachStays (bytes old) (bytes new)
  pub never_falls : NoneFalls (faults old) (faults new)

-- they are read so, and give such a value, or why there is none, by the limits of choices
pub record LoadsLine {D A : Type 0} (limits : ChoiceLimits) (bytes : D → Files) (faults : D → List ℕ → ℕ)
    (calls : D → ℕ) (asked : D → Option Reads) (old new : D) (line : Line) (holds : A → Type 0)
    (result : Result A Cause) : Type 0 where
  pub held : IfOk result holds
  pub caused : IfErr result (IsCause limits (bytes old) (Rose (faults old) (faults new))
      (AsksForFirst (bytes old) (calls old) (calls new)) line)
  pub reads : ReadsLine bytes faults calls asked old new line
