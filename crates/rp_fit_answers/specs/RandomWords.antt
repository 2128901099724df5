-- What the words after `random` ask where they set a limit of steps: the files of budgets and of choices, how many units
-- there are to be on each budget, the most steps that searches may make, and whether the answer is to be JSON. Options
-- stand before, between or behind the names of the two files, each once (this program's own).
use Rattle.std.specs.Prelude.{ℕ, Bool, true, false, not, ◌&&◌, ◌==◌, if◌then◌else◌, List, [], ◌∷◌, codes, length}
use Rattle.std.specs.Prelude.{Option, None, Some, option_and_then}
use Rattle.std.specs.Str.{bytes_eq}
use Rattle.rp_front.specs.Numbers.{number_in}
use Rattle.rp_generated.specs.declared.generated_verdict.TheConstants.{SEARCH_STEPS}
use Rattle.rp_limits.specs.declared.patch.TheConstants.{UNITS}
use Rattle.rp_fit_answers.specs.declared.asking.Awaited.{Awaited}
use Rattle.rp_fit_answers.specs.declared.asking.Awaited.TheVariants as wait
use Rattle.rp_fit_answers.specs.declared.asking.RandomAsked.{RandomAsked}

-- what is asked by the words that are read so far, and what the next one is. A name that is empty is none yet, and so is a
-- number that is 0
pub record Asking : Type 0 where
  pub budgets : List ℕ
  pub choices : List ℕ
  pub per : ℕ
  pub most : ℕ
  pub json : Bool
  pub awaited : Awaited

-- what is asked, as the code has it
abbrev pub asking_of : RandomAsked → Asking
asking_of a = record {
  budgets = a.budgets.now;
  choices = a.choices.now;
  per = a.per;
  most = a.most;
  json = a.json;
  awaited = a.awaited;
}

-- before the first word after `random`
abbrev pub nothing_read : Asking
nothing_read = record { budgets = []; choices = []; per = 0; most = 0; json = false; awaited = wait.Next }

-- a word that may be a file's name: not empty, and not begun as an option is
abbrev pub is_file_name : List ℕ → Bool
is_file_name [] = false
is_file_name (byte ∷ rest) = not (byte == 45)

-- with one word more, as what it is
abbrev pub with_budgets : Asking → List ℕ → Asking
with_budgets a word =
    record { budgets = word; choices = a.choices; per = a.per; most = a.most; json = a.json; awaited = wait.Next }

abbrev pub with_choices : Asking → List ℕ → Asking
with_choices a word =
    record { budgets = a.budgets; choices = word; per = a.per; most = a.most; json = a.json; awaited = wait.Next }

abbrev pub with_json : Asking → Asking
with_json a =
    record { budgets = a.budgets; choices = a.choices; per = a.per; most = a.most; json = true; awaited = wait.Next }

abbrev pub with_per : Asking → ℕ → Asking
with_per a n =
    record { budgets = a.budgets; choices = a.choices; per = n; most = a.most; json = a.json; awaited = wait.Next }

abbrev pub with_most : Asking → ℕ → Asking
with_most a n =
    record { budgets = a.budgets; choices = a.choices; per = a.per; most = n; json = a.json; awaited = wait.Next }

abbrev pub awaiting : Awaited → Asking → Asking
awaiting next a =
    record { budgets = a.budgets; choices = a.choices; per = a.per; most = a.most; json = a.json; awaited = next }

-- the name of the first file that is not named yet
abbrev pub file_taken : Asking → List ℕ → Option Asking
file_taken a word =
    if length a.budgets == 0 then Some (with_budgets a word)
    else if length a.choices == 0 then Some (with_choices a word)
    else None

abbrev pub option_taken : Asking → List ℕ → Option Asking
option_taken a word =
    if bytes_eq word (codes "--json") then (if a.json then None else Some (with_json a))
    else if bytes_eq word (codes "--per") then (if a.per == 0 then Some (awaiting wait.Units a) else None)
    else if bytes_eq word (codes "--steps") then (if a.most == 0 then Some (awaiting wait.Steps a) else None)
    else None

abbrev pub next_taken : Asking → List ℕ → Option Asking
next_taken a word = if is_file_name word then file_taken a word else option_taken a word

-- numbers from 1 to their limit
abbrev pub number_taken : (ℕ → Asking) → Option ℕ → Option Asking
number_taken taken None = None
number_taken taken (Some n) = if n == 0 then None else Some (taken n)

-- with one word more, where it is one that may stand there
unfoldable pub taken_as : Awaited → Asking → List ℕ → Option Asking
taken_as wait.Next a word = next_taken a word
taken_as wait.Units a word = number_taken (with_per a) (number_in UNITS word)
taken_as wait.Steps a word = number_taken (with_most a) (number_in SEARCH_STEPS word)

abbrev pub taken : Asking → List ℕ → Option Asking
taken a word = taken_as a.awaited a word

-- with all of these words
abbrev pub all_taken : Asking → List (List ℕ) → Option Asking
all_taken a [] = Some a
all_taken a (word ∷ words) = option_and_then (λ next. all_taken next words) (taken a word)

-- no word is missing
abbrev pub is_at_next : Awaited → Bool
is_at_next wait.Next = true
is_at_next wait.Units = false
is_at_next wait.Steps = false

-- both files are named, and a limit is set
abbrev pub is_whole : Asking → Bool
is_whole a =
    is_at_next a.awaited
    && (not (length a.budgets == 0) && (not (length a.choices == 0) && not (a.most == 0)))

abbrev pub where_whole : Asking → Option Asking
where_whole a = if is_whole a then Some a else None

-- what these words ask, which follow `random`
unfoldable pub asking_in : List (List ℕ) → Option Asking
asking_in words = option_and_then where_whole (all_taken nothing_read words)

-- how many units there are to be on each budget, where that is asked for
abbrev pub units_of : Asking → Option ℕ
units_of a = if a.per == 0 then None else Some a.per
