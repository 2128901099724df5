-- What a call tells of the files that the words of a program name, with its cause (this project's own form).
use Rattle.std.specs.Prelude.{◌≡◌, ℕ, List, [], Option, Some, None, length}
use Rattle.rp_frame.specs.Frames.{Request, request_in}
use Rattle.rp_frame.specs.Names.{ended_names, words_alone}
use Rattle.rp_frame.specs.Rooms.{filled}
use Rattle.rp_front.specs.Meaning.{Meaning}
use Rattle.rp_front.specs.declared.status.Status.TheVariants.{Done, Rejected, Usage, ReadFault, Refused, WriteFault}
use Rattle.rp_front.specs.declared.status.Status.TheVariants.{NoMemory}
use Rattle.rp_front_call.specs.CallEndings.{HasNoText, Requests, asked_of}
use Rattle.rp_front_call.specs.declared.ending.Ending.{Ending}
use Rattle.rp_front_call.specs.declared.ending.Ending.TheVariants.{Ran, NoText, Malformed}

-- the program takes the words, and the text is the names of the files that they ask for, in their order
pub record NamesFiles (m : Meaning) (words text : List ℕ) : Type 0 where
  pub request : Request
  pub requests : Requests (words_alone words) request
  pub question : m.Asked
  pub asked : asked_of m request ≡ Some question
  pub names : text ≡ ended_names (m.files_of question)

-- the words are none that the program takes, and no name is told
pub record NamesNothing (m : Meaning) (words text : List ℕ) : Type 0 where
  pub request : Request
  pub requests : Requests (words_alone words) request
  pub no_question : asked_of m request ≡ None
  pub silent : text ≡ []

-- how a call ends that tells the files of words, and the text of their names
abbrev pub IsNamingOf : Meaning → List ℕ → Ending → List ℕ → Type 0
IsNamingOf m words (Ran Done) text = NamesFiles m words text
IsNamingOf m words (Ran Rejected) text = ⊥
IsNamingOf m words (Ran Usage) text = NamesNothing m words text
IsNamingOf m words (Ran ReadFault) text = ⊥
IsNamingOf m words (Ran Refused) text = ⊥
IsNamingOf m words (Ran WriteFault) text = ⊥
IsNamingOf m words (Ran NoMemory) text = text ≡ []
IsNamingOf m words NoText text = HasNoText (words_alone words) × (text ≡ [])
IsNamingOf m words Malformed text = (request_in (words_alone words) ≡ None) × (text ≡ [])

-- the same of words that were read, by what they ask
abbrev pub NamesOfAsked : (m : Meaning) → Option m.Asked → Ending → List ℕ → Type 0
NamesOfAsked m (Some question) ending text = (ending ≡ Ran Done) × (text ≡ ended_names (m.files_of question))
NamesOfAsked m None ending text = (ending ≡ Ran Usage) × (text ≡ [])

-- a call ends so: the names stand at the front of the caller's room, as much of them as has place, and the number tells
-- how long they are
pub record NamesSo (m : Meaning) (words : List ℕ) (ending : Ending) (old new : List ℕ) (count : ℕ) : Type 0 where
  pub text : List ℕ
  pub names : IsNamingOf m words ending text
  pub kept : new ≡ filled old text
  pub counted : count ≡ length text
