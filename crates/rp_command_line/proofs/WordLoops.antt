-- What a loop over arguments has read so far.
use Rattle.std.proofs.Common.{◌≡◌, ◌<◌, ◌≤◌, ◌^◌, ◌+◌, ◌++◌, nat_lt, subst, if◌then◌else◌, ℕ, suc, Bool, true, false, List, [], ◌∷◌, Option, Some, None, length, drop, map, take, get_or, refl, sym, ap, ◌∙◌}
use Rattle.std.specs.Prelude.{nat_le, option_and_then, option_map}
use Rattle.std.proofs.lemmas.List.{append_assoc, map-append, take-append-drop, take_more}
use Rattle.std.proofs.Math.Seq.{drop-cons}
use Rattle.clap.specs.Walk.{Row, Rule, Text, first_of, one_of}
use Rattle.clap.specs.Simple.{App, with_subcommand}
use Rattle.rp_command_line.specs.Commands.{alone, command_of, program_of, with_rules}
use Rattle.rp_command_line.specs.CommandForms.{CommandForm, NumberArgument, units}
use Rattle.rp_command_line.specs.CommandLine.{file_names}
use Rattle.std.proofs.lemmas.Bool.{leb-true}
use Rattle.std.specs.Str.Parse.{digits_value, without_leading_plus}
use Rattle.clap.proofs.WalkLemmas.{both}
use Rattle.clap.specs.ValueTests.{is_numeral, is_unsigned_in}
use Rattle.rp_command_line.specs.CommandLine.{Arguments}
use Rattle.rp_command_line.specs.Shapes.{AreInRange, AreUnits, HasRanges, IsInRange}
use Rattle.rp_command_line.specs.Words.{all_in, arguments_in, json_of, number_in, number_of}

module _ {X V : Type 0} (read : X → List Row → Option V) (rows : List Row) where
  -- one more value at the end, or none
  read_more : (xs : List X) (x : X) (vs : List V) (v : V) → all_in read xs rows ≡ Some vs → read x rows ≡ Some v → all_in read (xs ++ x ∷ []) rows ≡ Some (vs ++ v ∷ [])
  read_more [] x vs v is one = let none : [] ≡ vs = cc in rw (one, sym none) refl
  read_more (y ∷ ys) x vs v is one = go (λ ws same. read_more ys x ws v same one) (read y rows) (all_in read ys rows) refl is
    where
      go : ((ws : List V) → all_in read ys rows ≡ Some ws → all_in read (ys ++ x ∷ []) rows ≡ Some (ws ++ v ∷ [])) → (first : Option V) (more : Option (List V)) → all_in read ys rows ≡ more
          → option_and_then (λ w. option_map (λ ws. w ∷ ws) more) first ≡ Some vs → option_and_then (λ w. option_map (λ ws. w ∷ ws) (all_in read (ys ++ x ∷ []) rows)) first ≡ Some (vs ++ v ∷ [])
      go later None more same is = cc
      go later (Some w) None same is = cc
      go later (Some w) (Some ws) same is = let whole : w ∷ ws ≡ vs = cc in rw (later ws same, sym whole) refl

  -- where one is missing, not all are there
  one_missing : (xs : List X) (x : X) (more : List X) → read x rows ≡ None → all_in read (xs ++ x ∷ more) rows ≡ None
  one_missing [] x more none = rw none refl
  one_missing (y ∷ ys) x more none = rw (one_missing ys x more none) (go (read y rows))
    where
      go : (first : Option V) → option_and_then {T = V} {U = List V} (λ w. None) first ≡ None
      go None = refl
      go (Some w) = refl

split_at : {A : Type 0} (xs : List A) (i : ℕ) (d : A) → i < length xs → xs ≡ take i xs ++ get_or xs i d ∷ drop (suc i) xs
split_at xs i d within = sym (take-append-drop i xs) ∙ ap (λ (more : List _). take i xs ++ more) (drop-cons xs i d within)

-- the same at a place of a list that is gone over
module _ {A X V : Type 0} (read : X → List Row → Option V) (rows : List Row) (of : A → X) (xs : List A) (i : ℕ) (d : A) (within : i < length xs) where
  pub read_at : (vs : List V) (v : V) → all_in read (map of (take i xs)) rows ≡ Some vs → read (of (get_or xs i d)) rows ≡ Some v → all_in read (map of (take (i + 1) xs)) rows ≡ Some (vs ++ v ∷ [])
  read_at vs v is one = rw (take_more xs i d within, map-append of (take i xs) (get_or xs i d ∷ [])) (read_more read rows (map of (take i xs)) (of (get_or xs i d)) vs v is one)

  pub missing_at : read (of (get_or xs i d)) rows ≡ None → all_in read (map of xs) rows ≡ None
  missing_at none =
      ap (λ (all : List A). all_in read (map of all) rows) (split_at xs i d within)
      ∙ ap (λ (all : List X). all_in read all rows) (map-append of (take i xs) (get_or xs i d ∷ drop (suc i) xs))
      ∙ one_missing read rows (map of (take i xs)) (of (get_or xs i d)) (map of (drop (suc i) xs)) none

-- a program so far: with no command it is a leaf
abbrev is_none : List CommandForm → Bool
is_none [] = true
is_none (x ∷ xs) = false

abbrev pub program_so_far : List CommandForm → App
program_so_far some = record (program_of some) { top = record (program_of some).top { is_leaf = is_none some } }

not_none : (some : List CommandForm) (form : CommandForm) → is_none (some ++ form ∷ []) ≡ false
not_none [] form = refl
not_none (x ∷ xs) form = refl

pub command_more : {A : Type 0} (of : A → CommandForm) (xs : List A) (i : ℕ) (d : A) (old new command : App) → i < length xs → old ≡ program_so_far (map of (take i xs))
    → command ≡ alone (command_of (of (get_or xs i d))) → new ≡ with_subcommand old command.top → new ≡ program_so_far (map of (take (i + 1) xs))
command_more of xs i d old new command within so is added =
    let some = map of (take i xs) in
    let form = of (get_or xs i d) in
    rw (added, so, is, take_more xs i d within, map-append of (take i xs) (get_or xs i d ∷ []), not_none some form, map-append command_of some (form ∷ [])) refl

-- the arguments of a command, one sort after the other
pub rules_whole : (start : App) (files numbers per json : List Rule) → with_rules (with_rules (with_rules (with_rules start files) numbers) per) json ≡ with_rules start (files ++ (numbers ++ (per ++ json)))
rules_whole start files numbers per json =
    ap (λ (rules : List Rule). with_rules (record start { top = record start.top { rules = [] } }) rules)
    (append_assoc (start.top.rules ++ files ++ numbers) per json ∙ append_assoc (start.top.rules ++ files) numbers (per ++ json) ∙ append_assoc start.top.rules files (numbers ++ (per ++ json)))

pub map_twice : {A X V : Type 0} (f : X → V) (g : A → X) (xs : List A) → map (λ x. f (g x)) xs ≡ map f (map g xs)
map_twice f g [] = refl
map_twice f g (x ∷ xs) = ap (λ (more : List _). f (g x) ∷ more) (map_twice f g xs)

-- what matches give is in range
number_ranged : (number : NumberArgument) (text : Option Text) (n : ℕ) → option_and_then (number_in number) text ≡ Some n → IsInRange number n
number_ranged number None n is = cc
number_ranged number (Some text) n is = go (is_unsigned_in number.least number.most text) refl is
  where
    go : (b : Bool) → is_unsigned_in number.least number.most text ≡ b → (if b then Some (digits_value 10 (without_leading_plus text)) else None) ≡ Some n → IsInRange number n
    go true test is =
        let same : digits_value 10 (without_leading_plus text) ≡ n = cc in
        let whole = both (is_numeral (without_leading_plus text)) _ test in
        let sized = both (nat_lt (digits_value 10 (without_leading_plus text)) (2 ^ 64)) _ whole.1 in
        let bounds = both (nat_le number.least (digits_value 10 (without_leading_plus text))) (nat_le (digits_value 10 (without_leading_plus text)) number.most) sized.1 in
        (subst (λ m. number.least ≤ m) same (leb-true _ _ bounds.0), subst (λ m. m ≤ number.most) same (leb-true _ _ bounds.1))
    go false test is = cc

numbers_ranged : (numbers : List NumberArgument) (rows : List Row) (ns : List ℕ) → all_in number_of numbers rows ≡ Some ns → AreInRange numbers ns
numbers_ranged [] rows [] is = tt
numbers_ranged [] rows (n ∷ ns) is = cc
numbers_ranged (number ∷ numbers) rows ns is = go (numbers_ranged numbers rows) (number_of number rows) refl (all_in number_of numbers rows) refl ns is
  where
    go : ((ns : List ℕ) → all_in number_of numbers rows ≡ Some ns → AreInRange numbers ns) → (first : Option ℕ) → number_of number rows ≡ first → (more : Option (List ℕ)) → all_in number_of numbers rows ≡ more
        → (ns : List ℕ) → option_and_then (λ m. option_map (λ ms. m ∷ ms) more) first ≡ Some ns → AreInRange (number ∷ numbers) ns
    go later None one more rest ns is = cc
    go later (Some m) one None rest ns is = cc
    go later (Some m) one (Some ms) rest ns is =
        let whole : m ∷ ms ≡ ns = cc in
        subst (λ (all : List ℕ). AreInRange (number ∷ numbers) all) whole (number_ranged number (one_of number.name rows) m one, later ms rest)

pub given_ranged : (form : CommandForm) (rows : List Row) (arguments : Arguments) → arguments_in form rows ≡ Some arguments → HasRanges form arguments
given_ranged form rows arguments is = go (all_in first_of (file_names form.files) rows) (all_in number_of form.numbers rows) refl is
  where
    per_ranged : (has : Bool) (per : Option ℕ) → (if has then number_of units rows else None) ≡ per → AreUnits has per
    per_ranged true None is = tt
    per_ranged true (Some n) is = number_ranged units (one_of units.name rows) n is
    per_ranged false per is = sym is

    go : (files : Option (List Text)) (numbers : Option (List ℕ)) → all_in number_of form.numbers rows ≡ numbers
        → option_and_then (λ files. option_map (λ numbers. record {
          files = files;
          numbers = numbers;
          per = if form.per then number_of units rows else None;
          json = if form.json then json_of rows else false;
        }) numbers) files ≡ Some arguments → HasRanges form arguments
    go None numbers read is = cc
    go (Some files) None read is = cc
    go (Some files) (Some numbers) read is =
        let same : record { files = files; numbers = numbers; per = if form.per then number_of units rows else None; json = if form.json then json_of rows else false } ≡ arguments = cc in
        subst (λ (g : Arguments). HasRanges form g) same (numbers_ranged form.numbers rows numbers read, per_ranged form.per (if form.per then number_of units rows else None) refl)

-- and all are there
all_there : {X V : Type 0} (read : X → List Row → Option V) (xs : List X) (rows : List Row) (vs : List V) → all_in read xs rows ≡ Some vs → length vs ≡ length xs
all_there read [] rows [] is = refl
all_there read [] rows (v ∷ vs) is = cc
all_there read (x ∷ xs) rows vs is = go (all_there read xs rows) (read x rows) (all_in read xs rows) refl is
  where
    go : ((ws : List _) → all_in read xs rows ≡ Some ws → length ws ≡ length xs) → (first : Option _) (more : Option (List _)) → all_in read xs rows ≡ more
        → option_and_then (λ w. option_map (λ ws. w ∷ ws) more) first ≡ Some vs → length vs ≡ suc (length xs)
    go later None more rest is = cc
    go later (Some w) None rest is = cc
    go later (Some w) (Some ws) rest is = let whole : w ∷ ws ≡ vs = cc in ap length (sym whole) ∙ ap suc (later ws rest)

pub given_whole : (form : CommandForm) (rows : List Row) (arguments : Arguments) → arguments_in form rows ≡ Some arguments → length arguments.files ≡ length (file_names form.files)
given_whole form rows arguments is = go (all_in first_of (file_names form.files) rows) refl (all_in number_of form.numbers rows) is
  where
    go : (files : Option (List Text)) → all_in first_of (file_names form.files) rows ≡ files → (numbers : Option (List ℕ))
        → option_and_then (λ files. option_map (λ numbers. record {
          files = files;
          numbers = numbers;
          per = if form.per then number_of units rows else None;
          json = if form.json then json_of rows else false;
        }) numbers) files ≡ Some arguments → length arguments.files ≡ length (file_names form.files)
    go None read numbers is = cc
    go (Some files) read None is = cc
    go (Some files) read (Some numbers) is =
        let same : record { files = files; numbers = numbers; per = if form.per then number_of units rows else None; json = if form.json then json_of rows else false } ≡ arguments = cc in
        subst (λ (g : Arguments). length g.files ≡ length (file_names form.files)) same (all_there first_of (file_names form.files) rows files read)
