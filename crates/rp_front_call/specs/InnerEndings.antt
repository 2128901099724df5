-- How a run over files in memory ends, in the shape that a call takes it on (for the functions between).
use Rattle.std.specs.Prelude.{◌≡◌, List, [], ◌∷◌, ℕ, Option, Some, None, codes, unwrap_or}
use Rattle.rp_outside.specs.Files.{bytes_under}
use Rattle.rp_frame.specs.Frames.{Request}
use Rattle.rp_front.specs.Contents.{AnswersWith, Files, RefusesWith}
use Rattle.rp_front.specs.Lines.{read_line}
use Rattle.rp_front.specs.Meaning.{Meaning}
use Rattle.rp_front.specs.declared.status.Status.{Status}
use Rattle.rp_front.specs.declared.status.Status.TheVariants.{Done, Rejected, Usage, ReadFault, Refused, WriteFault}
use Rattle.rp_front.specs.declared.status.Status.TheVariants.{NoMemory}
use Rattle.rp_front_call.specs.CallEndings.{HasTooMany, IsStatusOf}
use Rattle.rp_front_call.specs.declared.ending.Ending.{Ending}
use Rattle.rp_front_call.specs.declared.ending.Ending.TheVariants.{Ran, NoText, Malformed}

-- each of these files, and one that is not among them as empty
abbrev pub known_in : List (List ℕ × List ℕ) → Files
known_in files name = Some (unwrap_or (bytes_under files name) [])

-- an answer with this status is written
pub record RunWrites (m : Meaning) (files : Files) (asked : Option m.Asked) (status : Status) (text told : List ℕ) : Type 0 where
  pub question : m.Asked
  pub asks : asked ≡ Some question
  pub written : AnswersWith m files question status text told

-- words that are none that the program takes
pub record RunTellsUsage (m : Meaning) (asked : Option m.Asked) (text told : List ℕ) : Type 0 where
  pub no_question : asked ≡ None
  pub silent : text ≡ []
  pub tells : told ≡ m.usage

-- a file is refused
pub record RunRefuses (m : Meaning) (files : Files) (asked : Option m.Asked) (text told : List ℕ) : Type 0 where
  pub question : m.Asked
  pub asks : asked ≡ Some question
  pub silent : text ≡ []
  pub refuses : RefusesWith m files question told

-- what a run wrote and told, by its status; memory did not run out
abbrev pub IsRun : (m : Meaning) → Files → Option m.Asked → Status → List ℕ → List ℕ → Type 0
IsRun m files asked Done text told = RunWrites m files asked Done text told
IsRun m files asked Rejected text told = RunWrites m files asked Rejected text told
IsRun m files asked Usage text told = RunTellsUsage m asked text told
IsRun m files asked ReadFault text told = ⊥
IsRun m files asked Refused text told = RunRefuses m files asked text told
IsRun m files asked WriteFault text told = ⊥
IsRun m files asked NoMemory text told = ⊥

-- a call ends as a run
abbrev pub EndsAsRun : (m : Meaning) → Files → Option m.Asked → Ending → List ℕ → List ℕ → Type 0
EndsAsRun m files asked (Ran status) text told = IsRun m files asked status text told
EndsAsRun m files asked NoText text told = ⊥
EndsAsRun m files asked Malformed text told = ⊥

-- a file is told not to be given
pub record TellsUnread (m : Meaning) (file : List ℕ) (ending : Ending) (text told : List ℕ) : Type 0 where
  pub ends : ending ≡ Ran ReadFault
  pub silent : text ≡ []
  pub tells : told ≡ read_line m.name file

-- an ending of words and files that were read, with what is written and what is told
abbrev pub IsEnded : Meaning → Request → Ending → List ℕ → List ℕ → Type 0
IsEnded m request (Ran status) text told = IsStatusOf m request status text told
IsEnded m request NoText text told = ⊥
IsEnded m request Malformed text told = HasTooMany m request × (text ≡ []) × (told ≡ [])

-- an ending of these words and files, where a request has them
pub record EndsFor (m : Meaning) (words : List (List ℕ)) (files : List (List ℕ × List ℕ)) (ending : Ending)
    (text told : List ℕ) : Type 0 where
  pub ended : (request : Request) → words ≡ codes "rp" ∷ request.words → files ≡ request.files
      → IsEnded m request ending text told
