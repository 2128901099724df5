-- A command takes words that use its arguments one after the other, whatever they are: each use of one that was not used before is free of
-- faults and adds its row. What a use leaves pending is counted as done.
use Rattle.std.proofs.Common.{◌≡◌, ◌&&◌, ◌||◌, ◌++◌, ℕ, ◌+◌, Bool, true, false, List, [], ◌∷◌, Some, None, fold, min, codes, refl, ap, ◌∙◌}
use Rattle.std.proofs.lemmas.List.{append-nil, append_assoc}
use Rattle.std.specs.Str.{bytes_eq}
use Rattle.clap.specs.Faults.{settle_fault, turn_fault, walk_fault}
use Rattle.clap.specs.Lexer.{usize_max}
use Rattle.clap.specs.Simple.{Shape, filled, new_rule, with_index}
use Rattle.clap.specs.ValueTests.{accepts}
use Rattle.clap.specs.Values.{reading_of}
use Rattle.clap.specs.Walk.{Held, Row, Rule, Text, Walk, arg_by_id, arg_by_index, arg_by_long, at_row, has_row, idle, is_pending, more_values, option, settled_rows, walked, with_values, without}
use Rattle.clap.specs.declared.builder.value_parser.Reading.{Reading}
use Rattle.clap.specs.declared.builder.value_parser.Reading.TheVariants.{AsWritten}
use Rattle.clap.specs.declared.builder.value_parser.ValueParser.{ValueParser}
use Rattle.clap.specs.declared.parser.matches.ValueSource.TheVariants.{CommandLine}
use Rattle.rp_command_line.specs.Commands.{json_rule, per_rule}
use Rattle.rp_command_line.specs.CommandForms.{units}
use Rattle.clap.specs.ValueTests.{is_unsigned_in}
use Rattle.rp_command_line.proofs.KeptRows.{neither}
use Rattle.rp_command_line.proofs.PlainWords.{IsPlainWord}

pub and_false : (b : Bool) → (b && false) ≡ false
and_false true = refl
and_false false = refl

pub or_true : (b : Bool) → (b || true) ≡ true
or_true true = refl
or_true false = refl

-- an argument that has to be there, by its name and by what takes its word
abbrev pub Place : Type 0
Place = Text × ValueParser

abbrev pub place_rule : Place → Rule
place_rule p = record (new_rule p.0) { parser = Some p.1; required = true }

-- as it is built
abbrev pub placed : ℕ → Place → Rule
placed i p = with_index i (filled (place_rule p))

-- the row of an argument with one value
abbrev pub row : Text → Reading → Text → Row
row id reading word = record { id = id; values = word ∷ []; count = None; source = Some CommandLine; reading = reading }

abbrev pub place_row : Place → Text → Row
place_row p word = row p.0 (reading_of p.1) word

-- the options as they are built
abbrev pub per_built : Rule
per_built = with_index 0 (filled per_rule)

abbrev pub json_built : Rule
json_built = with_index 0 (filled json_rule)

abbrev pub next_index : ℕ → ℕ
next_index i = min (i + 1) usize_max

-- rows without one of that name
pub absent : (id : Text) (change : Row → List Row) (missing rows : List Row) → has_row id rows ≡ false → at_row id change missing rows ≡ rows ++ missing
absent id change missing [] none = refl
absent id change missing (r ∷ rs) none =
    let apart = neither (bytes_eq r.id id) (has_row id rs) none in
    rw apart.0 (ap (λ (more : List Row). r ∷ more) (absent id change missing rs apart.1))

pub set_fresh : (id : Text) (reading : Reading) (word : Text) (rows : List Row) → has_row id rows ≡ false
    → with_values id reading CommandLine (word ∷ []) (without id rows) ≡ rows ++ row id reading word ∷ []
set_fresh id reading word rows none =
    rw (absent id (λ _. []) [] rows none ∙ append-nil rows) (absent id (more_values CommandLine (word ∷ [])) (row id reading word ∷ []) rows none)

module _ (s : Shape) where
  -- where the walk stands after whole uses
  abbrev pub at : ℕ → Held → Walk
  at i h = record { held = h; waiting = idle; position = i; is_trailing = false; stopped = None }

  -- nothing fails where the use that is pending is made, and then these are the rows
  pub record IsCalm (h : Held) (rows : List Row) : Type 0 where
    pub free : settle_fault s.rules s.args_override_self h ≡ []
    pub rows_are : settled_rows s.rules h.pending h.rows ≡ rows

  -- the words take the walk there, without a fault
  pub record Leads (i : ℕ) (h : Held) (words : List Text) (j : ℕ) (rows : List Row) : Type 0 where
    pub held : Held
    pub calm : IsCalm held rows
    pub walks : (rest : List Text) → fold (walked s.rules []) (at i h) (words ++ rest) ≡ fold (walked s.rules []) (at j held) rest
    pub free : (rest : List Text) → walk_fault s [] (at i h) (words ++ rest) ≡ walk_fault s [] (at j held) rest

  -- one word
  turn : (w next : Walk) (word : Text) (rest : List Text) → turn_fault s [] w word ≡ [] → walked s.rules [] w word ≡ next → walk_fault s [] w (word ∷ rest) ≡ walk_fault s [] next rest
  unfolding walk_fault
  turn w next word rest free goes = rw (free, goes) refl

  -- no words
  pub stays : (i : ℕ) (h : Held) (rows : List Row) → IsCalm h rows → Leads i h [] i rows
  stays i h rows calm = record { held = h; calm = calm; walks = λ rest. refl; free = λ rest. refl }

  -- words after words
  pub then_leads : (i j k : ℕ) (h : Held) (words more : List Text) (rows last : List Row) (first : Leads i h words j rows) → Leads j first.held more k last → Leads i h (words ++ more) k last
  then_leads i j k h words more rows last first second = record {
    held = second.held;
    calm = second.calm;
    walks = λ rest. rw (append_assoc words more rest) (first.walks (more ++ rest) ∙ second.walks rest);
    free = λ rest. rw (append_assoc words more rest) (first.free (more ++ rest) ∙ second.free rest);
  }

  module _ (i : ℕ) (h : Held) (rows : List Row) (calm : IsCalm h rows) where
    -- a word at its place
    module _ (p : Place) (word : Text) (plain : IsPlainWord word) (at_place : arg_by_index s.rules i ≡ Some (placed i p)) (own : arg_by_id s.rules p.0 ≡ Some (placed i p))
        (taken : accepts false p.1 word ≡ true) (fresh : has_row p.0 rows ≡ false) where
      abbrev after_place : Held
      after_place = record { rows = settled_rows s.rules h.pending h.rows; pending = Some (p.0, word ∷ []); skip = h.skip }

      place_walks : walked s.rules [] (at i h) word ≡ at (next_index i) after_place
      unfolding walked
      place_walks = rw (plain.dashes, plain.long, plain.short, at_place, and_false (is_pending (placed i p) h.pending)) refl

      place_free : turn_fault s [] (at i h) word ≡ []
      place_free = rw (plain.dashes, plain.long, plain.short, at_place, and_false (is_pending (placed i p) h.pending)) calm.free

      place_calm : IsCalm after_place (rows ++ place_row p word ∷ [])
      place_calm = record {
        free = rw (own, calm.rows_are, fresh, taken) refl;
        rows_are = rw (own, calm.rows_are) (set_fresh p.0 (reading_of p.1) word rows fresh);
      }

      pub place_leads : Leads i h (word ∷ []) (next_index i) (rows ++ place_row p word ∷ [])
      place_leads = record {
        held = after_place;
        calm = place_calm;
        walks = λ rest. ap (λ (w : Walk). fold (walked s.rules []) w rest) place_walks;
        free = λ rest. turn (at i h) (at (next_index i) after_place) word rest place_free place_walks;
      }

    -- the option with the units on each budget
    module _ (word : Text) (plain : IsPlainWord word) (by_long : arg_by_long s.rules units.name ≡ Some per_built) (own : arg_by_id s.rules units.name ≡ Some per_built)
        (taken : is_unsigned_in units.least units.most word ≡ true) (fresh : has_row units.name rows ≡ false) where
      abbrev per_waits : Walk
      per_waits = record {
        held = record { rows = settled_rows s.rules h.pending h.rows; pending = Some (units.name, []); skip = h.skip };
        waiting = option units.name;
        position = i;
        is_trailing = false;
        stopped = None;
      }

      abbrev after_per : Held
      after_per = record { rows = settled_rows s.rules h.pending h.rows; pending = Some (units.name, word ∷ []); skip = h.skip }

      per_walks : walked s.rules [] (at i h) (codes "--per") ≡ per_waits
      unfolding walked
      per_walks = rw by_long refl

      per_free : turn_fault s [] (at i h) (codes "--per") ≡ []
      per_free = rw by_long (rw calm.free refl)

      units_walks : walked s.rules [] per_waits word ≡ at i after_per
      unfolding walked
      units_walks = rw (plain.dashes, plain.long, plain.short, own) refl

      units_free : turn_fault s [] per_waits word ≡ []
      units_free = rw (plain.dashes, plain.long, plain.short) refl

      per_calm : IsCalm after_per (rows ++ row units.name AsWritten word ∷ [])
      per_calm = record {
        free = rw (own, calm.rows_are, fresh, taken) refl;
        rows_are = rw (own, calm.rows_are) (set_fresh units.name AsWritten word rows fresh);
      }

      pub per_leads : Leads i h (codes "--per" ∷ word ∷ []) i (rows ++ row units.name AsWritten word ∷ [])
      per_leads = record {
        held = after_per;
        calm = per_calm;
        walks = λ rest. ap (λ (w : Walk). fold (walked s.rules []) w (word ∷ rest)) per_walks ∙ ap (λ (w : Walk). fold (walked s.rules []) w rest) units_walks;
        free = λ rest. turn (at i h) per_waits (codes "--per") (word ∷ rest) per_free per_walks ∙ turn per_waits (at i after_per) word rest units_free units_walks;
      }

    -- the option that asks for JSON
    module _ (by_long : arg_by_long s.rules (codes "json") ≡ Some json_built) (fresh : has_row (codes "json") rows ≡ false) where
      abbrev after_json : Held
      after_json = record { rows = rows ++ row (codes "json") AsWritten (codes "true") ∷ []; pending = None; skip = h.skip }

      json_walks : walked s.rules [] (at i h) (codes "--json") ≡ at i after_json
      unfolding walked
      json_walks = rw (by_long, calm.rows_are) (rw (set_fresh (codes "json") AsWritten (codes "true") rows fresh) refl)

      json_free : turn_fault s [] (at i h) (codes "--json") ≡ []
      json_free = rw by_long (rw (calm.free, calm.rows_are, fresh) refl)

      pub json_leads : Leads i h (codes "--json" ∷ []) i (rows ++ row (codes "json") AsWritten (codes "true") ∷ [])
      json_leads = record {
        held = after_json;
        calm = record { free = refl; rows_are = refl };
        walks = λ rest. ap (λ (w : Walk). fold (walked s.rules []) w rest) json_walks;
        free = λ rest. turn (at i h) (at i after_json) (codes "--json") rest json_free json_walks;
      }
