-- What a call of the program `rp-wide` promises of words that begin with `fit` or `checkfit`, or with `random` and a limit
-- of steps: the clauses of `run_fit`, with hints.
use Rattle.std.specs.Prelude.{◌≡◌, ◌⊎◌, ◌||◌, ◌&&◌, ℕ, Bool, true, false, List, [], ◌∷◌, Option, Some, codes}
use Rattle.std.specs.Str.{bytes_eq}
use Rattle.rp_outside.specs.Faults.{HasRisen}
use Rattle.rp_guide.specs.Gains.{SinkChange}
use Rattle.rp_answers.specs.declared.status.Status.{Status}
use Rattle.rp_answers.specs.declared.status.Status.TheVariants as status
use Rattle.rp_fit_answers.specs.GoodnessOfFit.{goodness_of_fit}
use Rattle.rp_fit_answers.specs.Questions.{Question, asked_in}
use Rattle.rp_front.specs.Calls.{AnswersUsage, AsksByName, AsksInTurn, IsWritten, LeavesTheRest, TellsWhy}
use Rattle.rp_front.specs.Contents.{IsAccepted, IsRefused}
use Rattle.rp_front.specs.Endings.{IsEnd, NoneRose, Rose}
use Rattle.rp_front.specs.Turns.{AsksForFirst}
use Rattle.rp_front.specs.declared.status.Status.{Status as FrontStatus}
use Rattle.rp_front.specs.declared.status.Status.TheVariants.{Done, Rejected, Usage, ReadFault, Refused, WriteFault, NoMemory}
use Rattle.rp_run_wide.specs.Helping.{DeskChange}

-- one of the words is `--steps`
abbrev pub has_steps : List (List ℕ) → Bool
has_steps [] = false
has_steps (word ∷ words) = bytes_eq word (codes "--steps") || has_steps words

-- the first word after the program's name is `fit` or `checkfit`; or it is `random`, and a later one is `--steps`
abbrev pub are_for_fit : List (List ℕ) → Bool
are_for_fit (name ∷ command ∷ words) =
    bytes_eq command (codes "fit")
    || (bytes_eq command (codes "checkfit") || (bytes_eq command (codes "random") && has_steps words))
are_for_fit _ = false

-- a status as that of the programs over the front
abbrev pub front_status : Status → FrontStatus
front_status status.Done = Done
front_status status.Rejected = Rejected
front_status status.Usage = Usage
front_status status.ReadFault = ReadFault
front_status status.Refused = Refused
front_status status.WriteFault = WriteFault
front_status status.NoMemory = NoMemory

-- the clauses of `run_fit` for a call with hints that ends with this status
pub record IsFitCall (words : List (List ℕ)) (desk : DeskChange) (result : FrontStatus) (out err : SinkChange)
    : Type 0 where
  pub usage : AnswersUsage (asked_in words) result
  pub written : IsWritten true goodness_of_fit desk.bytes (asked_in words) result out err
  pub why : TellsWhy true goodness_of_fit desk.bytes (Rose desk.faults desk.faults_after)
      (AsksForFirst goodness_of_fit desk.bytes desk.calls desk.calls_after) (asked_in words) result err
  pub turns : AsksInTurn goodness_of_fit desk.bytes desk.calls desk.calls_after (asked_in words)
  pub names : AsksByName goodness_of_fit desk.bytes desk.asked desk.asked_after (asked_in words)
  pub complete : (a : Question) → asked_in words ≡ Some a → IsAccepted goodness_of_fit desk.bytes a
      → NoneRose goodness_of_fit a desk.faults desk.faults_after → ¬ HasRisen out.before out.after
      → IsEnd result ⊎ (result ≡ NoMemory)
  pub refused : (a : Question) → asked_in words ≡ Some a → IsRefused goodness_of_fit desk.bytes a
      → NoneRose goodness_of_fit a desk.faults desk.faults_after → (result ≡ Refused) ⊎ (result ≡ NoMemory)
  pub stays : LeavesTheRest desk.bytes desk.later desk.faults desk.faults_after out err

abbrev pub AnswersFit : List (List ℕ) → DeskChange → Status → SinkChange → SinkChange → Type 0
AnswersFit words desk result = IsFitCall words desk (front_status result)
