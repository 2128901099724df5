-- What the words of the program ask: the long file, the name of its column of ids, the names of the columns whose texts
-- are kept, what is asked of each household beside the verdicts, or in place of that, which bounds at the new prices of
-- another file; and how what is withheld is answered.
use Rattle.std.specs.Prelude.{ℕ, ◌-◌, ◌^◌, Bool, true, false, not, ◌&&◌, ◌||◌, ◌==◌, if◌then◌else◌, List, [], ◌∷◌, ◌++◌}
use Rattle.std.specs.Prelude.{length, drop, codes, Option, None, Some, is_some, option_and_then, option_map}
use Rattle.std.specs.Str.{bytes_eq}
use Rattle.rp_limits.specs.declared.command_line.TheConstants.{MOST_DRAWS}
use Rattle.rp_evidence.specs.declared.demand.DemandPart.{DemandPart}
use Rattle.rp_evidence.specs.declared.demand.WelfarePart.{WelfarePart}
use Rattle.rp_evidence.specs.declared.homothetic.Homothetic.{Homothetic}
use Rattle.rp_table.specs.Tables.{Observations}
use Rattle.rp_bound_rows.specs.AsStated.{demand_as_stated, welfare_as_stated}
use Rattle.rp_bound_rows.specs.declared.asked.BoundsAsked.{BoundsAsked}
use Rattle.rp_bound_rows.specs.declared.asked.BoundsAsked.TheVariants.{Demand, Welfare}
use Rattle.rp_bound_rows_wide.specs.FilledBounds.{IsGivenDemand, IsGivenWelfare}
use Rattle.rp_rows.specs.Verdicts.{given_as_stated}
use Rattle.rp_rows.specs.declared.asked.Asked.{Asked}
use Rattle.rp_rows_wide.specs.FilledTest.{IsGivenFilled}
use Rattle.rp_front.specs.Numbers.{number_in}
use Rattle.rp_panel_run.specs.declared.question.Awaited.{Awaited}
use Rattle.rp_panel_run.specs.declared.question.Awaited.TheVariants as wait
use Rattle.rp_panel_run.specs.declared.question.Named.{Named}
use Rattle.rp_panel_run.specs.declared.question.Named.TheVariants as named

-- what is asked by the words that are read so far, and what the next one is. An empty file or name of ids is none yet,
-- and so are 0 behaviours; `new_prices` is the file of new prices where bounds are asked
pub record Asking : Type 0 where
  pub file : List ℕ
  pub id : List ℕ
  pub kept : List (List ℕ)
  pub pump : Bool
  pub offered : Bool
  pub wide : Bool
  pub draws : ℕ
  pub seed : ℕ
  pub bounds : Option BoundsAsked
  pub new_prices : List ℕ
  pub awaited : Awaited

-- before the first word after the program's name
abbrev pub nothing_read : Asking
nothing_read = record {
  file = [];
  id = [];
  kept = [];
  pump = false;
  offered = false;
  wide = false;
  draws = 0;
  seed = 0;
  bounds = None;
  new_prices = [];
  awaited = wait.Next;
}

-- a text that may be a file's name: not empty, and not begun as an option is
abbrev pub is_file_name : List ℕ → Bool
is_file_name [] = false
is_file_name (byte ∷ rest) = not (byte == 45)

-- the same where another word is next
abbrev pub awaiting : Awaited → Asking → Asking
awaiting next a = record {
  file = a.file;
  id = a.id;
  kept = a.kept;
  pump = a.pump;
  offered = a.offered;
  wide = a.wide;
  draws = a.draws;
  seed = a.seed;
  bounds = a.bounds;
  new_prices = a.new_prices;
  awaited = next;
}

-- the same with one word more, as what it is
abbrev pub with_file : Asking → List ℕ → Asking
with_file a word = record {
  file = word;
  id = a.id;
  kept = a.kept;
  pump = a.pump;
  offered = a.offered;
  wide = a.wide;
  draws = a.draws;
  seed = a.seed;
  bounds = a.bounds;
  new_prices = a.new_prices;
  awaited = wait.Next;
}

abbrev pub with_id : Asking → List ℕ → Asking
with_id a word = record {
  file = a.file;
  id = word;
  kept = a.kept;
  pump = a.pump;
  offered = a.offered;
  wide = a.wide;
  draws = a.draws;
  seed = a.seed;
  bounds = a.bounds;
  new_prices = a.new_prices;
  awaited = wait.Next;
}

abbrev pub with_kept : Asking → List ℕ → Asking
with_kept a word = record {
  file = a.file;
  id = a.id;
  kept = a.kept ++ word ∷ [];
  pump = a.pump;
  offered = a.offered;
  wide = a.wide;
  draws = a.draws;
  seed = a.seed;
  bounds = a.bounds;
  new_prices = a.new_prices;
  awaited = wait.Next;
}

abbrev pub with_pump : Asking → Asking
with_pump a = record {
  file = a.file;
  id = a.id;
  kept = a.kept;
  pump = true;
  offered = a.offered;
  wide = a.wide;
  draws = a.draws;
  seed = a.seed;
  bounds = a.bounds;
  new_prices = a.new_prices;
  awaited = wait.Next;
}

abbrev pub with_intercepts : Asking → Asking
with_intercepts a = record {
  file = a.file;
  id = a.id;
  kept = a.kept;
  pump = a.pump;
  offered = true;
  wide = a.wide;
  draws = a.draws;
  seed = a.seed;
  bounds = a.bounds;
  new_prices = a.new_prices;
  awaited = wait.Next;
}

abbrev pub with_wide : Asking → Asking
with_wide a = record {
  file = a.file;
  id = a.id;
  kept = a.kept;
  pump = a.pump;
  offered = a.offered;
  wide = true;
  draws = a.draws;
  seed = a.seed;
  bounds = a.bounds;
  new_prices = a.new_prices;
  awaited = wait.Next;
}

abbrev pub with_draws : Asking → ℕ → Asking
with_draws a draws = record {
  file = a.file;
  id = a.id;
  kept = a.kept;
  pump = a.pump;
  offered = a.offered;
  wide = a.wide;
  draws = draws;
  seed = a.seed;
  bounds = a.bounds;
  new_prices = a.new_prices;
  awaited = wait.Seed;
}

abbrev pub with_seed : Asking → ℕ → Asking
with_seed a seed = record {
  file = a.file;
  id = a.id;
  kept = a.kept;
  pump = a.pump;
  offered = a.offered;
  wide = a.wide;
  draws = a.draws;
  seed = seed;
  bounds = a.bounds;
  new_prices = a.new_prices;
  awaited = wait.Next;
}

abbrev pub with_bounds : Asking → BoundsAsked → List ℕ → Asking
with_bounds a asked word = record {
  file = a.file;
  id = a.id;
  kept = a.kept;
  pump = a.pump;
  offered = a.offered;
  wide = a.wide;
  draws = a.draws;
  seed = a.seed;
  bounds = Some asked;
  new_prices = word;
  awaited = wait.Next;
}

-- the option that a word is
abbrev pub named_option : List ℕ → Named
named_option word =
    if bytes_eq word (codes "--pump") then named.Pump
    else if bytes_eq word (codes "--intercepts") then named.Intercepts
    else if bytes_eq word (codes "--wide") then named.Wide
    else if bytes_eq word (codes "--id") then named.Id
    else if bytes_eq word (codes "--keep") then named.Keep
    else if bytes_eq word (codes "--power") then named.Power
    else if bytes_eq word (codes "--demand") then named.Bounds Demand
    else if bytes_eq word (codes "--welfare") then named.Bounds Welfare
    else named.Other

-- with an option, each of which but `--keep` stands once, and of those of bounds one
unfoldable pub option_taken : Asking → Named → Option Asking
option_taken a named.Pump = if a.pump then None else Some (with_pump a)
option_taken a named.Intercepts = if a.offered then None else Some (with_intercepts a)
option_taken a named.Wide = if a.wide then None else Some (with_wide a)
option_taken a named.Id = if length a.id == 0 then Some (awaiting wait.Id a) else None
option_taken a named.Keep = Some (awaiting wait.Kept a)
option_taken a named.Power = if a.draws == 0 then Some (awaiting wait.Draws a) else None
option_taken a (named.Bounds asked) = if is_some a.bounds then None else Some (awaiting (wait.NewPrices asked) a)
option_taken a named.Other = None

-- with how many behaviours are drawn: from 1 to the limit
unfoldable pub draws_taken : Asking → Option ℕ → Option Asking
draws_taken a None = None
draws_taken a (Some draws) = if draws == 0 then None else Some (with_draws a draws)

-- with the name of the long file, where there is none yet, or with an option
unfoldable pub next_taken : Asking → List ℕ → Option Asking
next_taken a word =
    if is_file_name word then (if length a.file == 0 then Some (with_file a word) else None)
    else option_taken a (named_option word)

-- with one word more, where it is one that may stand there
unfoldable pub taken_as : Awaited → Asking → List ℕ → Option Asking
taken_as wait.Next a word = next_taken a word
taken_as wait.Id a word = if length word == 0 then None else Some (with_id a word)
taken_as wait.Kept a word = Some (with_kept a word)
taken_as wait.Draws a word = draws_taken a (number_in MOST_DRAWS word)
taken_as wait.Seed a word = option_map (with_seed a) (number_in (2 ^ 64 - 1) word)
taken_as (wait.NewPrices asked) a word = if is_file_name word then Some (with_bounds a asked word) else None

abbrev pub taken : Asking → List ℕ → Option Asking
taken a word = taken_as a.awaited a word

-- with all of these words
abbrev pub all_taken : Asking → List (List ℕ) → Option Asking
all_taken a [] = Some a
all_taken a (word ∷ words) = option_and_then (λ next. all_taken next words) (taken a word)

-- no word is missing
abbrev pub is_at_next : Awaited → Bool
is_at_next wait.Next = true
is_at_next wait.Id = false
is_at_next wait.Kept = false
is_at_next wait.Draws = false
is_at_next wait.Seed = false
is_at_next (wait.NewPrices asked) = false

-- beside bounds nothing more is asked of the verdicts
abbrev pub go_together : Asking → Bool
go_together a = not (is_some a.bounds) || not (a.pump || (a.offered || not (a.draws == 0)))

-- no word is missing, the long file is named, and the words that there are go together
abbrev pub is_whole : Asking → Bool
is_whole a = is_at_next a.awaited && (not (length a.file == 0) && go_together a)

abbrev pub where_whole : Asking → Option Asking
where_whole a = if is_whole a then Some a else None

-- what words ask, of which the first is the program's name
unfoldable pub asking_in : List (List ℕ) → Option Asking
asking_in words = option_and_then where_whole (all_taken nothing_read (drop 1 words))

-- the name of the column of ids
abbrev pub id_name : Asking → List ℕ
id_name a = if length a.id == 0 then codes "household" else a.id

-- the names of the files that are asked for: the long file, and that of new prices where bounds are asked
abbrev pub new_files : Option BoundsAsked → List ℕ → List (List ℕ)
new_files None new = []
new_files (Some asked) new = new ∷ []

abbrev pub files_of : Asking → List (List ℕ)
files_of a = a.file ∷ new_files a.bounds a.new_prices

-- how the homothetic test is answered: with what else is found where it is withheld, or as it stands
abbrev pub given_by : Bool → Observations → Homothetic → Type 0
given_by true = IsGivenFilled
given_by false = given_as_stated

-- how bounds on demand and on the money metric are found: so too
abbrev pub demand_by : Bool → Observations → List ℕ → ℕ → DemandPart → Type 0
demand_by true = IsGivenDemand
demand_by false = demand_as_stated

abbrev pub welfare_by : Bool → Observations → List ℕ → ℕ → WelfarePart → Type 0
welfare_by true = IsGivenWelfare
welfare_by false = welfare_as_stated

-- what is asked of each household beside the verdicts
abbrev pub more_asked : Asking → Asked
more_asked a = record {
  pump = a.pump;
  power = if a.draws == 0 then None else Some (record { draws = a.draws; seed = a.seed });
}
