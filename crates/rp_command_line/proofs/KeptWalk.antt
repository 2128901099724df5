-- What the matches of a command hold that has no command below it, where `clap` takes its words: all rows are good, and each argument
-- that has to be there was given.
use Rattle.std.proofs.Common.{◌≡◌, ◌&&◌, ◌||◌, ℕ, zero, suc, Bool, true, false, not, List, [], ◌∷◌, Option, Some, None, is_some, length, drop, fold, slice_get, refl, encode_utf8, chars, if◌then◌else◌}
use Rattle.std.proofs.Math.Dec.{eqb-suc-zero}
use Rattle.std.specs.List.{AllByRecursion, list_any}
use Rattle.std.specs.Option.{option_map_or}
use Rattle.std.specs.Str.{bytes_eq}
use Rattle.clap.specs.Faults.{bundle_fault, bundle_step_fault, check_fault, default_fault, defaults_fault, flag_word_fault, flags_fault, level_fault, long_fault, option_fault, other_fault, positional_fault, react_fault, settle_fault, short_fault, step_fault, stray_fault, turn_fault, use_fault, values_fault, walk_fault, word_fault}
use Rattle.clap.specs.Kinds.{Kinds, check_kinds, or_else, request_kinds}
use Rattle.clap.specs.Lexer.{long_of, short_of}
use Rattle.clap.specs.Simple.{Shape}
use Rattle.clap.specs.Takes.{is_given}
use Rattle.clap.specs.Walk.{Held, Names, Outcome, Row, Rule, Step, Text, Waiting, Walk, action_of, after_flag, after_step, arg_by_id, arg_by_index, arg_by_long, arg_by_short, attached_value, bundle, bundle_met, bundle_step, default_rows, done, finished, flag_met, has_long, has_row, has_short, idle, is_empty, is_pending, long_met, long_or_other, next, nothing_held, option, option_met, option_word, plain, plain_word, positional, reacted, reading_by, refused, rows_after, settled, settled_rows, short_met, short_or_plain, subcommand, subcommand_met, subcommand_or_other, takes_several, takes_values, to_positional, trailing, used, used_by_id, value, waits, walk, walk_from, walked, walked_from, with_default, word_met}
use Rattle.clap.specs.declared.parser.matches.ValueSource.TheVariants.{DefaultValue}
use Rattle.rp_command_line.proofs.KeptRows.{AreGood, IsKept, all_found, first_free, given_good, second_free, used_good}

-- a word that is no flag adds no row
plain_rows : (c : List Rule) (waiting : Waiting) (word : Text) (h : Held) → (plain_word c waiting word h).0.rows ≡ h.rows
plain_rows c idle word h = refl
plain_rows c positional word h = refl
plain_rows c (option id) word h = go (arg_by_id c id)
  where
    go : (o : Option Rule) → (option_word o id word h).0.rows ≡ h.rows
    go None = refl
    go (Some a) = refl

after_flag_rows : (c : List Rule) (waiting : Waiting) (word : Text) (h : Held) (outcome : Outcome) → (after_flag c waiting word h outcome).0.rows ≡ h.rows
after_flag_rows c waiting word h done = refl
after_flag_rows c waiting word h (waits id) = refl
after_flag_rows c waiting word h plain = plain_rows c waiting word h
after_flag_rows c waiting word h refused = plain_rows c waiting word h

module _ (c : List Rule) (kept : AllByRecursion (IsKept c) c) (again : Bool) where
  -- the argument that waits for its values is used
  settled_rows_good : (pending : Option (Text × List Text)) (rows : List Row) → option_map_or (λ p. option_map_or (λ a. use_fault again a p.1 rows) (arg_by_id c p.0) []) pending [] ≡ []
      → AreGood c rows → AreGood c (settled_rows c pending rows)
  settled_rows_good None rows free good = good
  settled_rows_good (Some p) rows free good = go (arg_by_id c p.0) refl free
    where
      go : (o : Option Rule) → arg_by_id c p.0 ≡ o → option_map_or (λ a. use_fault again a p.1 rows) o [] ≡ [] → AreGood c (used_by_id o p.1 rows)
      go None is free = good
      go (Some a) is free = used_good c a (all_found (IsKept c) (λ b. bytes_eq b.id p.0) a c kept is) again p.1 rows free good

  settled_good : (h : Held) → settle_fault c again h ≡ [] → AreGood c h.rows → AreGood c (settled c h).rows
  settled_good h free good = settled_rows_good h.pending h.rows free good

  -- and then this one
  reacted_good : (a : Rule) → IsKept c a → (values : List Text) (h : Held) → react_fault c again a values h ≡ [] → AreGood c h.rows → AreGood c (used a values (settled c h).rows)
  reacted_good a own values h free good =
      let settles = first_free (settle_fault c again h) (use_fault again a values (settled c h).rows) free in
      let uses = second_free (settle_fault c again h) (use_fault again a values (settled c h).rows) free in
      used_good c a own again values (settled c h).rows uses (settled_good h settles good)

  option_good : (a : Rule) → IsKept c a → (v : Option Text) (h : Held) → option_fault c again a v h ≡ [] → AreGood c h.rows → AreGood c (option_met c a v h).0.rows
  option_good a own None h free good = settled_good h free good
  option_good a own (Some v) h free good = reacted_good a own (v ∷ []) h free good

  -- `--name` or `--name=value`
  long_good : (name : Text) (found : Option Rule) → arg_by_long c name ≡ found → (v : Option Text) (h : Held) → long_fault c again found v h ≡ [] → AreGood c h.rows
      → AreGood c (long_met c found v h).0.rows
  long_good name None is v h free good = cc
  long_good name (Some a) is v h free good = go (takes_values a) v free
    where
      own : IsKept c a
      own = all_found (IsKept c) (λ b. not (is_some b.index) && has_long b name) a c kept is

      go : (b : Bool) (v : Option Text) → (if b then option_fault c again a v h else (if is_some v then Rattle.clap.specs.declared.error.kind.ErrorKind.TheVariants.TooManyValues ∷ [] else react_fault c again a [] h)) ≡ []
          → AreGood c ((if b then option_met c a v h else flag_met c a v h).0.rows)
      go true v free = option_good a own v h free good
      go false None free = reacted_good a own [] h free good
      go false (Some v) free = cc

  -- the flags of a word such as `-abc`
  short_good : (x : ℕ) (rest : Text) (found : Option Rule) → arg_by_short c x ≡ found → (h : Held) (fault : Held → Kinds) (met : Held → Held × Outcome)
      → ((now : Held) → fault now ≡ [] → AreGood c now.rows → AreGood c (met now).0.rows)
      → short_fault c again found rest h fault ≡ [] → AreGood c h.rows → AreGood c (short_met c found rest h met).0.rows
  short_good x rest None is h fault met later free good = cc
  short_good x rest (Some a) is h fault met later free good = go (takes_values a) free
    where
      own : IsKept c a
      own = all_found (IsKept c) (λ b. not (is_some b.index) && has_short b x) a c kept is

      go : (b : Bool) → (if b then option_fault c again a (attached_value rest) h else or_else (react_fault c again a [] h) (fault (reacted c a [] h))) ≡ []
          → AreGood c ((if b then option_met c a (attached_value rest) h else met (reacted c a [] h)).0.rows)
      go true free = option_good a own (attached_value rest) h free good
      go false free =
          let reacts = first_free (react_fault c again a [] h) (fault (reacted c a [] h)) free in
          let goes_on = second_free (react_fault c again a [] h) (fault (reacted c a [] h)) free in
          later (reacted c a [] h) goes_on (reacted_good a own [] h reacts good)

  bundle_good : (k : ℕ) (flags : Text) (skip : ℕ) (so_far : Outcome) (h : Held) → flags_fault c again k flags skip h ≡ [] → AreGood c h.rows → AreGood c (bundle_met c k flags skip so_far h).0.rows
  unfolding bundle_met flags_fault
  bundle_good zero flags skip so_far h free good = good
  bundle_good (suc k) flags skip so_far h free good = go (bundle_good k) (slice_get (chars flags) 0) skip free
    where
      go : ((flags : Text) (skip : ℕ) (so_far : Outcome) (h : Held) → flags_fault c again k flags skip h ≡ [] → AreGood c h.rows → AreGood c (bundle_met c k flags skip so_far h).0.rows)
          → (o : Option ℕ) (skip : ℕ) → bundle_step_fault c again o flags skip h (flags_fault c again k) ≡ [] → AreGood c (bundle_step c o flags skip so_far h (bundle_met c k)).0.rows
      go later None skip free = good
      go later (Some x) zero free =
          let rest = drop (length (encode_utf8 x)) flags in
          short_good x rest (arg_by_short c x) refl h (flags_fault c again k rest 0) (bundle_met c k rest 0 done) (later rest 0 done) free good
      go later (Some x) (suc skip) free = later (drop (length (encode_utf8 x)) flags) skip so_far h free good

  flag_word_good : (waiting : Waiting) (word : Text) (long : Option (Text × Option Text)) (h : Held) → flag_word_fault c again long word h ≡ [] → AreGood c h.rows
      → AreGood c (long_or_other c waiting word long h).0.rows
  flag_word_good waiting word (Some p) h free good =
      let met = long_met c (arg_by_long c p.0) p.1 h in
      rw (after_flag_rows c waiting word met.0 met.1) (long_good p.0 (arg_by_long c p.0) refl p.1 h free good)
  flag_word_good waiting word None h free good = go (short_of word) free
    where
      go : (short : Option Text) → option_map_or (λ flags. bundle_fault c again flags h) short [] ≡ [] → AreGood c (short_or_plain c waiting word short h).0.rows
      go None free = rw (plain_rows c waiting word h) good
      go (Some flags) free =
          let met = bundle c flags h in
          rw (after_flag_rows c waiting word met.0 met.1) (bundle_good (length flags) flags h.skip plain (record h { skip = 0 }) free good)

  default_good : (a : Rule) → IsKept c a → (rows : List Row) → default_fault rows a ≡ [] → AreGood c rows → AreGood c (with_default rows a)
  default_good a own rows free good = go (has_row a.id rows) a.defaults free
    where
      go : (b : Bool) (defaults : List Text) → (if b || is_empty defaults then [] else or_else (request_kinds (action_of a)) (values_fault a defaults)) ≡ []
          → AreGood c (if b then rows else default_rows a.id (reading_by a) defaults rows)
      go true defaults free = good
      go false [] free = good
      go false (v ∷ vs) free =
          let gives : or_else (request_kinds (action_of a)) (values_fault a (v ∷ vs)) ≡ [] = rw (eqb-suc-zero (length vs)) at free in
          given_good c a own (v ∷ vs) tt (second_free (request_kinds (action_of a)) (values_fault a (v ∷ vs)) gives) DefaultValue rows good

  defaults_good : (rules : List Rule) → AllByRecursion (IsKept c) rules → (rows : List Row) → defaults_fault rows rules ≡ [] → AreGood c rows → AreGood c (fold with_default rows rules)
  unfolding defaults_fault
  defaults_good [] own rows free good = good
  defaults_good (a ∷ rest) own rows free good =
      let here = first_free (default_fault rows a) (defaults_fault (with_default rows a) rest) free in
      let later = second_free (default_fault rows a) (defaults_fault (with_default rows a) rest) free in
      defaults_good rest own.1 (with_default rows a) later (default_good a own.0 rows here good)

-- the words of a command with these rules
module _ (s : Shape) (kept : AllByRecursion (IsKept s.rules) s.rules) (names : Names) where
  other_good : (waiting : Waiting) (position : ℕ) (word : Text) (met : Option Text) (h : Held) → other_fault s met word h ≡ [] → AreGood s.rules h.rows
      → AreGood s.rules (subcommand_or_other s.rules met waiting position word h).0.rows
  other_good waiting position word (Some name) h free good = good
  other_good waiting position word None h free good = go (bytes_eq word (45 ∷ 45 ∷ [])) free
    where
      go : (b : Bool) → (if b then [] else flag_word_fault s.rules s.args_override_self (long_of word) word h) ≡ []
          → AreGood s.rules ((if b then (h, trailing position) else long_or_other s.rules waiting word (long_of word) h).0.rows)
      go true free = good
      go false free = flag_word_good s.rules kept s.args_override_self waiting word (long_of word) h free good

  word_good : (is_trailing : Bool) (waiting : Waiting) (position : ℕ) (word : Text) (h : Held) → word_fault s names is_trailing waiting word h ≡ [] → AreGood s.rules h.rows
      → AreGood s.rules (word_met s.rules names is_trailing waiting position word h).0.rows
  word_good true waiting position word h free good = good
  word_good false waiting position word h free good = other_good waiting position word (subcommand_met names waiting word) h free good

  positional_good : (found : Option Rule) (word : Text) (w : Walk) (h : Held) → option_map_or (λ a. positional_fault s.rules s.args_override_self a h) found (stray_fault s) ≡ []
      → AreGood s.rules h.rows → AreGood s.rules (to_positional s.rules found word w h).held.rows
  positional_good None word w h free good = good
  positional_good (Some a) word w h free good = go (is_pending a h.pending && takes_several a) free
    where
      go : (b : Bool) → (if b then [] else settle_fault s.rules s.args_override_self h) ≡ [] → AreGood s.rules ((if b then h else settled s.rules h).rows)
      go true free = good
      go false free = settled_good s.rules kept s.args_override_self h free good

  step_good : (word : Text) (w : Walk) (h : Held) (step : Step) → step_fault s w.position h step ≡ [] → AreGood s.rules h.rows → AreGood s.rules (after_step s.rules word w h step).held.rows
  step_good word w h (next waiting) free good = good
  step_good word w h (trailing position) free good = good
  step_good word w h (subcommand name) free good = good
  step_good word w h value free good = positional_good (arg_by_index s.rules w.position) word w h free good

  turn_good : (w : Walk) (word : Text) → turn_fault s names w word ≡ [] → AreGood s.rules w.held.rows → AreGood s.rules (walked s.rules names w word).held.rows
  unfolding walked
  turn_good w word free good = go w.stopped free
    where
      met : Held × Step
      met = word_met s.rules names w.is_trailing w.waiting w.position word w.held

      go : (stopped : Option (Text × List Text)) → (if is_some stopped then [] else or_else (word_fault s names w.is_trailing w.waiting word w.held) (step_fault s w.position met.0 met.1)) ≡ []
          → AreGood s.rules (walked_from s.rules names stopped w word).held.rows
      go (Some p) free = good
      go None free =
          let reads = first_free (word_fault s names w.is_trailing w.waiting word w.held) (step_fault s w.position met.0 met.1) free in
          let steps = second_free (word_fault s names w.is_trailing w.waiting word w.held) (step_fault s w.position met.0 met.1) free in
          step_good word w met.0 met.1 steps (word_good w.is_trailing w.waiting w.position word w.held reads good)

  walk_good : (words : List Text) (w : Walk) → walk_fault s names w words ≡ [] → AreGood s.rules w.held.rows → AreGood s.rules (fold (walked s.rules names) w words).held.rows
  unfolding walk_fault
  walk_good [] w free good = good
  walk_good (word ∷ rest) w free good =
      let here = first_free (turn_fault s names w word) (walk_fault s names (walked s.rules names w word) rest) free in
      let later = second_free (turn_fault s names w word) (walk_fault s names (walked s.rules names w word) rest) free in
      walk_good rest (walked s.rules names w word) later (turn_good w word here good)

-- where the last checks find nothing, no command and no argument is wanted
pub none_wanted : (help command argument : Bool) → check_kinds help command argument ≡ [] → (command ≡ false) × (argument ≡ false)
none_wanted true command argument free = cc
none_wanted false true argument free = cc
none_wanted false false true free = cc
none_wanted false false false free = (refl, refl)

-- the arguments that have to be there were given
abbrev pub AreGiven : List Rule → List Row → Type 0
AreGiven rules rows = AllByRecursion (λ a. a.required ≡ true → is_given a.id rows ≡ true) rules

given_here : (required given more : Bool) → (required && not given || more) ≡ false → (required ≡ true → given ≡ true) × (more ≡ false)
given_here true true more e = (λ r. refl, e)
given_here true false more e = cc
given_here false given more e = (λ r. cc, e)

each_given : (rules : List Rule) (rows : List Row) → list_any (λ a. a.required && not (is_given a.id rows)) rules ≡ false → AreGiven rules rows
each_given [] rows none = tt
each_given (a ∷ rest) rows none = let here = given_here a.required (is_given a.id rows) (list_any (λ b. b.required && not (is_given b.id rows)) rest) none in (here.0, each_given rest rows here.1)

wanted_below : (negates : Bool) (wanted : Bool) → (not (negates && false) && wanted) ≡ false → wanted ≡ false
wanted_below true wanted e = e
wanted_below false wanted e = e

-- the rows of a command with these rules, where it takes the words
pub record AreTaken (rules : List Rule) (rows : List Row) : Type 0 where
  pub kept : AllByRecursion (IsKept rules) rules
  pub good : AreGood rules rows
  pub given : AreGiven rules rows

pub level_taken : (s : Shape) → AllByRecursion (IsKept s.rules) s.rules → (words : List Text) → level_fault s [] nothing_held words false [] ≡ [] → AreTaken s.rules (rows_after s.rules [] words)
level_taken s kept words free =
    let end = (walk s.rules [] nothing_held words).held in
    let again = s.args_override_self in
    let defaults = defaults_fault (settled s.rules end).rows s.rules in
    let checks = check_fault s (finished s.rules end) false in
    let walks = first_free (walk_fault s [] (walk_from nothing_held) words) (or_else (settle_fault s.rules again end) (or_else defaults checks)) free in
    let ended = second_free (walk_fault s [] (walk_from nothing_held) words) (or_else (settle_fault s.rules again end) (or_else defaults checks)) free in
    let settles = first_free (settle_fault s.rules again end) (or_else defaults checks) ended in
    let last = second_free (settle_fault s.rules again end) (or_else defaults checks) ended in
    let good = walk_good s kept [] words (walk_from nothing_held) walks tt in
    let wanted = none_wanted _ _ _ (second_free defaults checks last) in
    record {
      kept = kept;
      good = defaults_good s.rules kept again s.rules kept (settled s.rules end).rows (first_free defaults checks last) (settled_good s.rules kept again end settles good);
      given = each_given s.rules (finished s.rules end) (wanted_below s.subcommand_negates_reqs _ wanted.1);
    }
