-- What reading the files of a question gives, in the one form that all loaders have: what is held, or why nothing is, and
-- what the desk is asked for on the way. A desk is seen by what it says of its files' bytes, of their counts of faults, of
-- its count of calls and of the reads that it was asked for, before and after (this program's own).
use Rattle.std.specs.Prelude.{◌≤◌, ◌+◌, ℕ, List, Option, Result, IfErr, IfOk, Some, Ok}
use Rattle.rp_outside.specs.Asked.{AsksAtMostOnce, AsksOnce, Reads}
use Rattle.rp_outside.specs.Faults.{EachStays, NoneFalls}
use Rattle.rp_outside.specs.Reads.{calls_through}
use Rattle.rp_commands.specs.Readings.{Reading}
use Rattle.rp_front.specs.AskedInTurn.{AreAskedInTurn}
use Rattle.rp_front.specs.Contents.{AreContents, Files}
use Rattle.rp_front.specs.Endings.{Rose}
use Rattle.rp_front.specs.InnerCauses.{IsCause}
use Rattle.rp_front.specs.Turns.{AreReadInTurn, AsksForFirst}
use Rattle.rp_front.specs.declared.answer.Cause.{Cause}
use Rattle.rp_fit_answers.specs.Contents.{ContentsIn, Held}
use Rattle.rp_fit_answers.specs.GoodnessOfFit.{goodness_of_fit}
use Rattle.rp_fit_answers.specs.InnerCauses.{IsLoaded}
use Rattle.rp_fit_answers.specs.Questions.{Question}

-- one file, of which at most so many bytes are taken, is read through at most once, and gives what it holds by the
-- reading, or why it gives nothing
pub record LoadsFile {D A : Type 0} (bytes : D → Files) (faults : D → List ℕ → ℕ) (calls : D → ℕ)
    (asked : D → Option Reads) (old new : D) (limit : ℕ) (file : List ℕ) (reading : List ℕ → Reading A)
    (result : Result A Cause) : Type 0 where
  pub loaded : IsLoaded (bytes old) (Rose (faults old) (faults new)) file reading result
  pub read_through : calls new ≤ calls old + calls_through limit (bytes old file)
  pub asks_once : IfOk result (λ _. AsksOnce (asked old) (asked new) file)
  pub asks_at_most_once : AsksAtMostOnce (asked old) (asked new) file
  pub bytes_stay : EachStays (bytes old) (bytes new)
  pub never_falls : NoneFalls (faults old) (faults new)

-- the files of a question are read in their order, each whole before the next, and give such a value, or why there is none
pub record LoadsAsked {D A : Type 0} (bytes : D → Files) (faults : D → List ℕ → ℕ) (calls : D → ℕ)
    (asked : D → Option Reads) (old new : D) (question : Question) (holds : A → Type 0) (result : Result A Cause)
    : Type 0 where
  pub held : IfOk result holds
  pub caused : IfErr result (IsCause goodness_of_fit (bytes old) (Rose (faults old) (faults new))
      (AsksForFirst goodness_of_fit (bytes old) (calls old) (calls new) question) question)
  pub in_turn : AreReadInTurn goodness_of_fit (bytes old) (calls old) (calls new) question
  pub by_name : AreAskedInTurn goodness_of_fit (bytes old) (asked old) (asked new) question
  pub bytes_stay : EachStays (bytes old) (bytes new)
  pub never_falls : NoneFalls (faults old) (faults new)

-- some content of the files holds this
abbrev pub HasContents : Files → Question → Held → Type 0
HasContents files question held =
    (bytes : ℕ → List ℕ) × AreContents goodness_of_fit files question bytes
    × ContentsIn question (λ k. Some (bytes k)) (Ok held)
