-- What the loader of a line's files gives, from what loading each of them gave: where each is read beside the one
-- before, for lines over one, two and three files.
use Rattle.std.proofs.Common.{◌≡◌, ◌⊎◌, ◌≤◌, ◌+◌, ◌∙◌, ℕ, List, [], ◌∷◌, None, Some, Option, Result, Ok, Err, IfOk, IfErr, MatchResult, inl, inr, ap, sym, refl, subst, arith, length}
use Rattle.std.specs.Prelude.{Vec}
use Rattle.std.specs.Result.{IsErr, IsErrAnd}
use Rattle.std.specs.declared.alloc.Global.{Global}
use Rattle.rp_outside.specs.Asked.{Reads}
use Rattle.rp_outside.specs.Faults.{EachStays, NoneFalls}
use Rattle.rp_outside.specs.Reads.{calls_through}
use Rattle.rp_command_line.specs.CommandLine.{Arguments, Line, file_at, file_names, file_set, files_in, files_of, takes_levels}
use Rattle.rp_command_line.specs.Ranges.{IsSized}
use Rattle.rp_command_line.specs.declared.commands.Command.{Command}
use Rattle.rp_command_line.specs.declared.commands.Command.TheVariants.{Check, CheckRandom}
use Rattle.rp_command_line.specs.declared.commands.FileSet.{FileSet}
use Rattle.rp_command_line.specs.declared.commands.FileSet.TheVariants.{Nothing}
use Rattle.rp_answers.specs.Printed.{Printed}
use Rattle.rp_answers.specs.declared.answer.Answer.{Answer}
use Rattle.rp_answers.specs.declared.choice_limits.ChoiceLimits.{ChoiceLimits}
use Rattle.rp_answers.specs.declared.status.Status.TheVariants.{Done}
use Rattle.rp_num.specs.declared.NoMemory.{NoMemory as LeftNoMemory}
use Rattle.rp_commands.specs.Answers.{AnswersBy, AnswersLineBy, Files, HasContentsBy, IsTextBy}
use Rattle.rp_commands.specs.InnerCauses.{HoldsValue, IsCause, IsReadingCause}
use Rattle.rp_commands.specs.Contents.{Contents, ContentsIn, ContentsInBy, DenotesBy}
use Rattle.rp_commands.specs.Contents as contents
use Rattle.rp_commands.specs.Endings.{Rose}
use Rattle.rp_commands.specs.InnerLoadings.{LoadsFile, LoadsLine, ReadsLine}
use Rattle.rp_commands.specs.Readings.{AndThen, Just, Reading, WhereKnown}
use Rattle.rp_commands.specs.Turns.{AreRefused, AsksForFirst, calls_of_each, calls_of_files, first_known}
use Rattle.rp_commands.specs.declared.files.Cause.{Cause}
use Rattle.rp_commands.specs.declared.files.Cause.TheVariants.{NoMemory}
use Rattle.rp_commands.proofs.FileLemmas.{one_cause, one_input, two_input, first_cause, second_cause, last_cause, three_input, three_first, three_second, three_third, three_last, moved_cause, moved_value, no_files}
use Rattle.rp_commands.proofs.AskedLemmas.{first_asked, second_asked, third_asked, unasked}
use Rattle.rp_commands.proofs.GainsLemmas.{rises_later}
use Rattle.rp_commands.proofs.LineLemmas.{calls_are, none_named, one_named, three_named, two_named}
use Rattle.rp_commands.proofs.TurnLemmas.{IsKnownRefused, IsKnownTaken, asks_one, asks_two, asks_three, calls_later, first_turn, second_apart, second_turn, taken_apart, third_turn, known_before, known_refused, unknown, unread}

-- a failure that `?` passes on
pub failed_on : {A E : Type 0} (r : Result A E) (e : E) (P : Result A E → Type 0) → IsErr r × IsErrAnd r (λ x. x ≡ e) → P (Err e) → P r
failed_on (Ok x) e P h p = absurd (cc (h.0))
failed_on (Err x) e P h p = subst P (ap Err (sym h.1)) p

-- ---- no file

pub nothing_loads : {D : Type 0} (limits : ChoiceLimits) (bytes : D → Files) (faults : D → List ℕ → ℕ) (calls : D → ℕ) (asked : D → Option Reads) (desk : D) (line : Line) → file_set line ≡ Nothing → IsSized line
    → LoadsLine limits bytes faults calls asked desk desk line (HasContentsBy limits (bytes desk) line) (Ok contents.Nothing)
nothing_loads limits bytes faults calls asked desk line holds sized = record {
  held = no_files limits (bytes desk) line contents.Nothing (none_named line Nothing holds sized refl)
      (λ known. subst (λ (set : FileSet). ContentsInBy limits (takes_levels line) set line.arguments (λ k. Some (known k)) (Ok contents.Nothing)) (sym holds) refl);
  caused = tt;
  reads = record {
    in_turn = unread (bytes desk) (calls desk) line;
    by_name = unasked (bytes desk) (asked desk) line;
    bytes_stay = λ name. refl;
    never_falls = λ name. omega arith;
  };
}

-- ---- one file

pub record IsOverOne {A : Type 0} (limits : ChoiceLimits) (line : Line) (set : FileSet) (limit : ℕ) (reading : List ℕ → Reading A) (over : A → Contents) : Type 0 where
  pub holds : file_set line ≡ set
  pub named : files_of line ≡ file_at line 0 ∷ []
  pub calls : (files : Files) → calls_of_files files line ≡ calls_through limit (files (file_at line 0)) ∷ []
  pub denoted : (bytes : ℕ → List ℕ) (r : Result Contents (List ℕ)) → AndThen (reading (bytes 0)) (λ a. Just (Ok (over a))) r → DenotesBy limits line bytes r

pub over_one : {A : Type 0} (limits : ChoiceLimits) (line : Line) (set : FileSet) (limit : ℕ) (reading : List ℕ → Reading A) (over : A → Contents)
    → file_set line ≡ set → IsSized line → length (file_names set) ≡ 1
    → ((files : Files) (f : List ℕ) → calls_of_each files (files_in set) (f ∷ []) ≡ calls_through limit (files f) ∷ [])
    → ((bytes : ℕ → List ℕ) (r : Result Contents (List ℕ)) → AndThen (reading (bytes 0)) (λ a. Just (Ok (over a))) r
    → ContentsInBy limits (takes_levels line) set line.arguments (λ k. Some (bytes k)) r)
    → IsOverOne limits line set limit reading over
over_one limits line set limit reading over holds sized count each denotes =
    let named = one_named line set holds sized count in
    record {
      holds = holds;
      named = named;
      calls = λ files. calls_are line set holds sized files (file_at line 0 ∷ []) named ∙ each files (file_at line 0);
      denoted = λ bytes r read. subst (λ s. ContentsInBy limits (takes_levels line) s line.arguments (λ k. Some (bytes k)) r) (sym holds) (denotes bytes r read);
    }

module _ {D A V : Type 0} {bytes : D → Files} {faults : D → List ℕ → ℕ} {calls : D → ℕ} {asked : D → Option Reads} {limits : ChoiceLimits} {line : Line} {set : FileSet} {limit : ℕ} {reading : List ℕ → Reading A} {over : A → Contents}
    (one : IsOverOne limits line set limit reading over) (old new : D) (holds : V → Type 0) where
  reads_one : (r : Result A Cause) → LoadsFile bytes faults calls asked old new limit (file_at line 0) reading r → ReadsLine bytes faults calls asked old new line
  reads_one r loads = record {
    in_turn = first_turn (bytes old) line _ _ (one.calls (bytes old)) _ _ 0 (ap length one.named) loads.read_through;
    by_name = first_asked (bytes old) line _ [] _ _ one.named loads.asks_at_most_once;
    bytes_stay = loads.bytes_stay;
    never_falls = loads.never_falls;
  }

  pub one_none : (r : Result V Cause) (why : Cause) → IsErr r × IsErrAnd r (λ x. x ≡ why) → LoadsFile bytes faults calls asked old new limit (file_at line 0) reading (Err why)
      → LoadsLine limits bytes faults calls asked old new line holds r
  one_none r why passed loads =
      let files = bytes old in
      failed_on r why (LoadsLine limits bytes faults calls asked old new line holds) passed (record {
        held = tt;
        caused = one_cause limits files (Rose (faults old) (faults new)) (AsksForFirst files (calls old) (calls new)) line (file_at line 0) reading over why one.named one.denoted
            (asks_one files line _ _ (one.calls files) _ _ loads.read_through) loads.loaded;
        reads = reads_one (Err why) loads;
      })

  pub one_held : (value : V) (a : A) → LoadsFile bytes faults calls asked old new limit (file_at line 0) reading (Ok a) → (HasContentsBy limits (bytes old) line (over a) → holds value)
      → LoadsLine limits bytes faults calls asked old new line holds (Ok value)
  one_held value a loads has = record {
    held = has (one_input limits (bytes old) line (file_at line 0) reading over a one.named one.denoted loads.loaded);
    caused = tt;
    reads = reads_one (Ok a) loads;
  }

pub one_loads : {D A : Type 0} {bytes : D → Files} {faults : D → List ℕ → ℕ} {calls : D → ℕ} {asked : D → Option Reads} {limits : ChoiceLimits} {line : Line} {set : FileSet} {limit : ℕ} {reading : List ℕ → Reading A} {over : A → Contents}
    (one : IsOverOne limits line set limit reading over) (old new : D) (holds : A → Type 0) (r : Result A Cause) → LoadsFile bytes faults calls asked old new limit (file_at line 0) reading r
    → ((a : A) → HasContentsBy limits (bytes old) line (over a) → holds a) → LoadsLine limits bytes faults calls asked old new line holds r
one_loads one old new holds (Ok a) loads has = one_held one old new holds a a loads (has a)
one_loads one old new holds (Err why) loads has = one_none one old new holds (Err why) why (refl, refl) loads

-- ---- two files

pub record IsOverTwo {A B : Type 0} (limits : ChoiceLimits) (line : Line) (set : FileSet) (limit then_limit : ℕ) (read : List ℕ → Result A (List ℕ)) (after : A → List ℕ → Reading B) (last : A → B → Reading Contents) : Type 0 where
  pub holds : file_set line ≡ set
  pub named : files_of line ≡ file_at line 0 ∷ file_at line 1 ∷ []
  pub calls : (files : Files) → calls_of_files files line ≡ calls_through limit (files (file_at line 0)) ∷ calls_through then_limit (files (file_at line 1)) ∷ []
  pub denoted : (bytes : ℕ → List ℕ) (r : Result Contents (List ℕ)) → AndThen (Just (read (bytes 0))) (λ a. AndThen (after a (bytes 1)) (last a)) r → DenotesBy limits line bytes r
  pub refused : (files : Files) → AreRefused files line 1 → IsKnownRefused files (file_at line 0) (λ b. Just (read b))

pub over_two : {A B : Type 0} (limits : ChoiceLimits) (line : Line) (set : FileSet) (limit then_limit : ℕ) (read : List ℕ → Result A (List ℕ)) (after : A → List ℕ → Reading B) (last stated : A → B → Reading Contents)
    → file_set line ≡ set → IsSized line → length (file_names set) ≡ 2
    → ((files : Files) (f s : List ℕ) → calls_of_each files (files_in set) (f ∷ s ∷ []) ≡ calls_through limit (files f) ∷ calls_through then_limit (files s) ∷ [])
    → ((bytes : ℕ → List ℕ) (r : Result Contents (List ℕ)) → AndThen (Just (read (bytes 0))) (λ a. AndThen (after a (bytes 1)) (last a)) r
    → ContentsInBy limits (takes_levels line) set line.arguments (λ k. Some (bytes k)) r)
    → ((files : Files) (text : List ℕ) → ContentsIn (takes_levels line) set line.arguments (first_known files line 1) (Err text)
    → AndThen (WhereKnown (λ b. Just (read b)) (files (file_at line 0))) (λ a. AndThen (WhereKnown (after a) None) (stated a)) (Err text))
    → IsOverTwo limits line set limit then_limit read after last
over_two limits line set limit then_limit read after last stated holds sized count each denotes refuses =
    let named = two_named line set holds sized count in
    record {
      holds = holds;
      named = named;
      calls = λ files. calls_are line set holds sized files (file_at line 0 ∷ file_at line 1 ∷ []) named ∙ each files (file_at line 0) (file_at line 1);
      denoted = λ bytes r read. subst (λ s. ContentsInBy limits (takes_levels line) s line.arguments (λ k. Some (bytes k)) r) (sym holds) (denotes bytes r read);
      refused = λ files (text, is). known_refused files (file_at line 0) (λ b. Just (read b)) (λ a. AndThen (WhereKnown (after a) None) (stated a)) text
          (λ a more. unknown (after a) (stated a) text more)
          (refuses files text (subst (λ s. ContentsIn (takes_levels line) s line.arguments (first_known files line 1) (Err text)) holds is));
    }

module _ {D A B V : Type 0} {bytes : D → Files} {faults : D → List ℕ → ℕ} {calls : D → ℕ} {asked : D → Option Reads} {limits : ChoiceLimits} {line : Line} {set : FileSet} {limit then_limit : ℕ} {read : List ℕ → Result A (List ℕ)}
    {after : A → List ℕ → Reading B} {last : A → B → Reading Contents} (two : IsOverTwo limits line set limit then_limit read after last) (holds : V → Type 0) where
  -- the first gives none
  pub two_first_none : (old new : D) (r : Result V Cause) (why : Cause) → IsErr r × IsErrAnd r (λ x. x ≡ why)
      → LoadsFile bytes faults calls asked old new limit (file_at line 0) (λ b. Just (read b)) (Err why) → LoadsLine limits bytes faults calls asked old new line holds r
  two_first_none old new r why passed loads =
      let files = bytes old in
      failed_on r why (LoadsLine limits bytes faults calls asked old new line holds) passed (record {
        held = tt;
        caused = first_cause limits files (Rose (faults old) (faults new)) (AsksForFirst files (calls old) (calls new)) line (file_at line 0) (file_at line 1) (λ b. Just (read b)) after last two.named two.denoted why
            (asks_one files line _ _ (two.calls files) _ _ loads.read_through) loads.loaded;
        reads = record {
          in_turn = first_turn files line _ _ (two.calls files) _ _ 1 (ap length two.named) loads.read_through;
          by_name = first_asked files line _ (file_at line 1 ∷ []) _ _ two.named loads.asks_at_most_once;
          bytes_stay = loads.bytes_stay;
          never_falls = loads.never_falls;
        };
      })

  module _ (old mid new : D) (a : A) (loads : LoadsFile bytes faults calls asked old mid limit (file_at line 0) (λ b. Just (read b)) (Ok a)) where
    -- the second, of whatever result, for the desk before both
    also_read : calls new ≤ calls mid + calls_through then_limit (bytes mid (file_at line 1)) → calls new ≤ calls mid + calls_through then_limit (bytes old (file_at line 1))
    also_read once = calls_later (bytes old) (bytes mid) (file_at line 1) then_limit (calls mid) (calls new) (loads.bytes_stay (file_at line 1)) once

    reads_two : (r : Result B Cause) → LoadsFile bytes faults calls asked mid new then_limit (file_at line 1) (after a) r → ReadsLine bytes faults calls asked old new line
    reads_two r then_loads =
        let taken = λ (is : AreRefused (bytes old) line 1). taken_apart (bytes old) (file_at line 0) read a loads.loaded (two.refused (bytes old) is) in
        record {
          in_turn = second_turn (bytes old) line _ _ _ (two.calls (bytes old)) _ _ _ 0 (ap length two.named) loads.read_through (also_read then_loads.read_through) taken;
          by_name = second_asked (bytes old) line _ _ [] _ _ _ two.named loads.asks_once then_loads.asks_at_most_once taken;
          bytes_stay = λ name. then_loads.bytes_stay name ∙ loads.bytes_stay name;
          never_falls = λ name. omega (arith, loads.never_falls name, then_loads.never_falls name);
        }

    -- the second gives none
    pub two_second_none : (r : Result V Cause) (why : Cause) → IsErr r × IsErrAnd r (λ x. x ≡ why) → LoadsFile bytes faults calls asked mid new then_limit (file_at line 1) (after a) (Err why)
        → LoadsLine limits bytes faults calls asked old new line holds r
    two_second_none r why passed then_loads =
        let files = bytes old in
        let s = file_at line 1 in
        let moved = moved_cause files (bytes mid) (Rose (faults old) (faults new)) (Rose (faults mid) (faults new)) s (after a) why (loads.bytes_stay s)
        (λ up. rises_later (faults old s) (faults mid s) (faults new s) (loads.never_falls s) up) then_loads.loaded in
        failed_on r why (LoadsLine limits bytes faults calls asked old new line holds) passed (record {
          held = tt;
          caused = second_cause limits files (Rose (faults old) (faults new)) (AsksForFirst files (calls old) (calls new)) line (file_at line 0) s (λ b. Just (read b)) after last two.named two.denoted a why
              (asks_two files line _ _ _ (two.calls files) _ _ _ loads.read_through (also_read then_loads.read_through)) loads.loaded moved;
          reads = reads_two (Err why) then_loads;
        })

    module _ (b : B) (then_loads : LoadsFile bytes faults calls asked mid new then_limit (file_at line 1) (after a) (Ok b)) where
      moved_two : HoldsValue (bytes old) (file_at line 1) (after a) b
      moved_two = moved_value (bytes old) (bytes mid) (file_at line 1) (after a) b (loads.bytes_stay (file_at line 1)) then_loads.loaded

      pub two_held : (value : V) (input : Contents) → last a b (Ok input) → (HasContentsBy limits (bytes old) line input → holds value) → LoadsLine limits bytes faults calls asked old new line holds (Ok value)
      two_held value input made has =
          let files = bytes old in
          record {
            held = has (two_input limits files (Rose (faults old) (faults new)) (AsksForFirst files (calls old) (calls new)) line (file_at line 0) (file_at line 1) (λ b. Just (read b)) after last two.named two.denoted a b input
                loads.loaded moved_two made);
            caused = tt;
            reads = reads_two (Ok b) then_loads;
          }

      -- what is made of what both give, or why nothing is
      pub two_made : {M : Type 0} (r : Result V Cause) (reading : Reading M) (pair : V → M) (over : M → Contents) → ((made : M) → reading (Ok made) → last a b (Ok (over made)))
          → ((why : Cause) → IsReadingCause reading why → IsReadingCause (last a b) why) → IfOk r (λ v. reading (Ok (pair v))) → IfErr r (IsReadingCause reading)
          → ((v : V) → HasContentsBy limits (bytes old) line (over (pair v)) → holds v) → LoadsLine limits bytes faults calls asked old new line holds r
      two_made (Ok value) reading pair over takes refuses made none has = two_held value (over (pair value)) (takes (pair value) made) (has value)
      two_made (Err why) reading pair over takes refuses none refused has =
          let files = bytes old in
          record {
            held = tt;
            caused = last_cause limits files (Rose (faults old) (faults new)) (AsksForFirst files (calls old) (calls new)) line (file_at line 0) (file_at line 1) (λ b. Just (read b)) after last two.named two.denoted a b why
                loads.loaded moved_two (refuses why refused);
            reads = reads_two (Ok b) then_loads;
          }

-- ---- three files, of which the third is read beside none

pub record IsOverThree {A B C : Type 0} (limits : ChoiceLimits) (line : Line) (set : FileSet) (limit then_limit last_limit : ℕ) (read : List ℕ → Result A (List ℕ)) (after : A → List ℕ → Result B (List ℕ))
    (third : List ℕ → Reading C) (last : A → B → C → Reading Contents) : Type 0 where
  pub holds : file_set line ≡ set
  pub named : files_of line ≡ file_at line 0 ∷ file_at line 1 ∷ file_at line 2 ∷ []
  pub calls : (files : Files) → calls_of_files files line
      ≡ calls_through limit (files (file_at line 0)) ∷ calls_through then_limit (files (file_at line 1)) ∷ calls_through last_limit (files (file_at line 2)) ∷ []
  pub denoted : (bytes : ℕ → List ℕ) (r : Result Contents (List ℕ)) → AndThen (Just (read (bytes 0))) (λ a. AndThen (Just (after a (bytes 1))) (λ b. AndThen (third (bytes 2)) (last a b))) r → DenotesBy limits line bytes r
  pub refused : (files : Files) → AreRefused files line 1 → IsKnownRefused files (file_at line 0) (λ b. Just (read b))
  pub then_refused : (files : Files) → AreRefused files line 2 → IsKnownRefused files (file_at line 0) (λ b. Just (read b))
      ⊎ ((a : A) × IsKnownTaken files (file_at line 0) (λ b. Just (read b)) a × IsKnownRefused files (file_at line 1) (λ b. Just (after a b)))

pub over_three : {A B C : Type 0} (limits : ChoiceLimits) (line : Line) (set : FileSet) (limit then_limit last_limit : ℕ) (read : List ℕ → Result A (List ℕ)) (after : A → List ℕ → Result B (List ℕ))
    (third : List ℕ → Reading C) (last stated : A → B → C → Reading Contents)
    → file_set line ≡ set → IsSized line → length (file_names set) ≡ 3
    → ((files : Files) (f s t : List ℕ) → calls_of_each files (files_in set) (f ∷ s ∷ t ∷ []) ≡ calls_through limit (files f) ∷ calls_through then_limit (files s) ∷ calls_through last_limit (files t) ∷ [])
    → ((bytes : ℕ → List ℕ) (r : Result Contents (List ℕ)) → AndThen (Just (read (bytes 0))) (λ a. AndThen (Just (after a (bytes 1))) (λ b. AndThen (third (bytes 2)) (last a b))) r
    → ContentsInBy limits (takes_levels line) set line.arguments (λ k. Some (bytes k)) r)
    → ((files : Files) (text : List ℕ) → ContentsIn (takes_levels line) set line.arguments (first_known files line 1) (Err text)
    → AndThen (WhereKnown (λ b. Just (read b)) (files (file_at line 0))) (λ a. AndThen (WhereKnown (λ b. Just (after a b)) None) (λ b. AndThen (WhereKnown third None) (stated a b))) (Err text))
    → ((files : Files) (text : List ℕ) → ContentsIn (takes_levels line) set line.arguments (first_known files line 2) (Err text)
    → AndThen (WhereKnown (λ b. Just (read b)) (files (file_at line 0))) (λ a. AndThen (WhereKnown (λ b. Just (after a b)) (files (file_at line 1))) (λ b. AndThen (WhereKnown third None) (stated a b))) (Err text))
    → IsOverThree limits line set limit then_limit last_limit read after third last
over_three limits line set limit then_limit last_limit read after third last stated holds sized count each denotes refuses then_refuses =
    let named = three_named line set holds sized count in
    record {
      holds = holds;
      named = named;
      calls = λ files. calls_are line set holds sized files (file_at line 0 ∷ file_at line 1 ∷ file_at line 2 ∷ []) named ∙ each files (file_at line 0) (file_at line 1) (file_at line 2);
      denoted = λ bytes r read. subst (λ s. ContentsInBy limits (takes_levels line) s line.arguments (λ k. Some (bytes k)) r) (sym holds) (denotes bytes r read);
      refused = λ files (text, is). known_refused files (file_at line 0) (λ b. Just (read b)) (λ a. AndThen (WhereKnown (λ b. Just (after a b)) None) (λ b. AndThen (WhereKnown third None) (stated a b))) text
          (λ a more. unknown (λ b. Just (after a b)) (λ b. AndThen (WhereKnown third None) (stated a b)) text more)
          (refuses files text (subst (λ s. ContentsIn (takes_levels line) s line.arguments (first_known files line 1) (Err text)) holds is));
      then_refused = λ files (text, is).
          elim (known_before files (file_at line 0) (λ b. Just (read b)) (λ a. AndThen (WhereKnown (λ b. Just (after a b)) (files (file_at line 1))) (λ b. AndThen (WhereKnown third None) (stated a b))) text
          (then_refuses files text (subst (λ s. ContentsIn (takes_levels line) s line.arguments (first_known files line 2) (Err text)) holds is))) [
            | inl one ↦ inl one
            | inr (a, taken, more) ↦ inr (a, taken, known_refused files (file_at line 1) (λ b. Just (after a b)) (λ b. AndThen (WhereKnown third None) (stated a b)) text (λ b still. unknown third (stated a b) text still) more)
          ];
    }

module _ {D A B C V : Type 0} {bytes : D → Files} {faults : D → List ℕ → ℕ} {calls : D → ℕ} {asked : D → Option Reads} {limits : ChoiceLimits} {line : Line} {set : FileSet} {limit then_limit last_limit : ℕ} {read : List ℕ → Result A (List ℕ)}
    {after : A → List ℕ → Result B (List ℕ)} {third : List ℕ → Reading C} {last : A → B → C → Reading Contents} (three : IsOverThree limits line set limit then_limit last_limit read after third last) (holds : V → Type 0) where
  -- the first gives none
  pub three_first_none : (old new : D) (r : Result V Cause) (why : Cause) → IsErr r × IsErrAnd r (λ x. x ≡ why)
      → LoadsFile bytes faults calls asked old new limit (file_at line 0) (λ b. Just (read b)) (Err why) → LoadsLine limits bytes faults calls asked old new line holds r
  three_first_none old new r why passed loads =
      let files = bytes old in
      failed_on r why (LoadsLine limits bytes faults calls asked old new line holds) passed (record {
        held = tt;
        caused = three_first limits files (Rose (faults old) (faults new)) (AsksForFirst files (calls old) (calls new)) line (file_at line 0) (file_at line 1) (file_at line 2) (λ b. Just (read b)) (λ a b. Just (after a b)) third last
            three.named three.denoted why (asks_one files line _ _ (three.calls files) _ _ loads.read_through) loads.loaded;
        reads = record {
          in_turn = first_turn files line _ _ (three.calls files) _ _ 2 (ap length three.named) loads.read_through;
          by_name = first_asked files line _ (file_at line 1 ∷ file_at line 2 ∷ []) _ _ three.named loads.asks_at_most_once;
          bytes_stay = loads.bytes_stay;
          never_falls = loads.never_falls;
        };
      })

  -- the second gives none
  pub three_second_none : (old mid new : D) (a : A) → LoadsFile bytes faults calls asked old mid limit (file_at line 0) (λ b. Just (read b)) (Ok a) → (r : Result V Cause) (why : Cause) → IsErr r × IsErrAnd r (λ x. x ≡ why)
      → LoadsFile bytes faults calls asked mid new then_limit (file_at line 1) (λ b. Just (after a b)) (Err why) → LoadsLine limits bytes faults calls asked old new line holds r
  three_second_none old mid new a loads r why passed then_loads =
      let files = bytes old in
      let s = file_at line 1 in
      let moved = moved_cause files (bytes mid) (Rose (faults old) (faults new)) (Rose (faults mid) (faults new)) s (λ b. Just (after a b)) why (loads.bytes_stay s)
      (λ up. rises_later (faults old s) (faults mid s) (faults new s) (loads.never_falls s) up) then_loads.loaded in
      let also = calls_later files (bytes mid) s then_limit (calls mid) (calls new) (loads.bytes_stay s) then_loads.read_through in
      let taken = λ (is : AreRefused files line 1). taken_apart files (file_at line 0) read a loads.loaded (three.refused files is) in
      failed_on r why (LoadsLine limits bytes faults calls asked old new line holds) passed (record {
        held = tt;
        caused = three_second limits files (Rose (faults old) (faults new)) (AsksForFirst files (calls old) (calls new)) line (file_at line 0) s (file_at line 2) (λ b. Just (read b)) (λ a b. Just (after a b)) third last
            three.named three.denoted a why (asks_two files line _ _ _ (three.calls files) _ _ _ loads.read_through also) loads.loaded moved;
        reads = record {
          in_turn = second_turn files line _ _ _ (three.calls files) _ _ _ 1 (ap length three.named) loads.read_through also taken;
          by_name = second_asked files line _ _ (file_at line 2 ∷ []) _ _ _ three.named loads.asks_once then_loads.asks_at_most_once taken;
          bytes_stay = λ name. then_loads.bytes_stay name ∙ loads.bytes_stay name;
          never_falls = λ name. omega (arith, loads.never_falls name, then_loads.never_falls name);
        };
      })

  module _ (old mid then_mid new : D) (a : A) (b : B) (loads : LoadsFile bytes faults calls asked old mid limit (file_at line 0) (λ b. Just (read b)) (Ok a))
      (then_loads : LoadsFile bytes faults calls asked mid then_mid then_limit (file_at line 1) (λ b. Just (after a b)) (Ok b)) where
    moved_three : HoldsValue (bytes old) (file_at line 1) (λ b. Just (after a b)) b
    moved_three = moved_value (bytes old) (bytes mid) (file_at line 1) (λ b. Just (after a b)) b (loads.bytes_stay (file_at line 1)) then_loads.loaded

    both_stay : EachStays (bytes old) (bytes then_mid)
    both_stay = λ name. then_loads.bytes_stay name ∙ loads.bytes_stay name

    neither_falls : NoneFalls (faults old) (faults then_mid)
    neither_falls = λ name. omega (arith, loads.never_falls name, then_loads.never_falls name)

    also_three : calls then_mid ≤ calls mid + calls_through then_limit (bytes old (file_at line 1))
    also_three = calls_later (bytes old) (bytes mid) (file_at line 1) then_limit (calls mid) (calls then_mid) (loads.bytes_stay (file_at line 1)) then_loads.read_through

    too_three : calls new ≤ calls then_mid + calls_through last_limit (bytes then_mid (file_at line 2)) → calls new ≤ calls then_mid + calls_through last_limit (bytes old (file_at line 2))
    too_three once = calls_later (bytes old) (bytes then_mid) (file_at line 2) last_limit (calls then_mid) (calls new) (both_stay (file_at line 2)) once

    taken_three : AreRefused (bytes old) line 1 → ⊥
    taken_three is = taken_apart (bytes old) (file_at line 0) read a loads.loaded (three.refused (bytes old) is)

    then_taken_three : AreRefused (bytes old) line 2 → ⊥
    then_taken_three is = elim (three.then_refused (bytes old) is) [
      | inl one ↦ taken_apart (bytes old) (file_at line 0) read a loads.loaded one
      | inr both ↦ second_apart (bytes old) (file_at line 0) (file_at line 1) read after a b loads.loaded moved_three both
    ]

    reads_three : (r : Result C Cause) → LoadsFile bytes faults calls asked then_mid new last_limit (file_at line 2) third r → ReadsLine bytes faults calls asked old new line
    reads_three r last_loads = record {
      in_turn = third_turn (bytes old) line _ _ _ _ (three.calls (bytes old)) _ _ _ _ (ap length three.named) loads.read_through also_three (too_three last_loads.read_through) taken_three then_taken_three;
      by_name = third_asked (bytes old) line _ _ _ _ _ _ _ three.named loads.asks_once then_loads.asks_once last_loads.asks_at_most_once taken_three then_taken_three;
      bytes_stay = λ name. last_loads.bytes_stay name ∙ both_stay name;
      never_falls = λ name. omega (arith, neither_falls name, last_loads.never_falls name);
    }

    -- the third gives none
    pub three_third_none : (r : Result V Cause) (why : Cause) → IsErr r × IsErrAnd r (λ x. x ≡ why) → LoadsFile bytes faults calls asked then_mid new last_limit (file_at line 2) third (Err why)
        → LoadsLine limits bytes faults calls asked old new line holds r
    three_third_none r why passed last_loads =
        let files = bytes old in
        let t = file_at line 2 in
        let carried = moved_cause files (bytes then_mid) (Rose (faults old) (faults new)) (Rose (faults then_mid) (faults new)) t third why (both_stay t)
        (λ up. rises_later (faults old t) (faults then_mid t) (faults new t) (neither_falls t) up) last_loads.loaded in
        failed_on r why (LoadsLine limits bytes faults calls asked old new line holds) passed (record {
          held = tt;
          caused = three_third limits files (Rose (faults old) (faults new)) (AsksForFirst files (calls old) (calls new)) line (file_at line 0) (file_at line 1) t (λ b. Just (read b)) (λ a b. Just (after a b)) third last
              three.named three.denoted a b why (asks_three files line _ _ _ _ (three.calls files) _ _ _ _ loads.read_through also_three (too_three last_loads.read_through)) loads.loaded moved_three carried;
          reads = reads_three (Err why) last_loads;
        })

    module _ (c : C) (last_loads : LoadsFile bytes faults calls asked then_mid new last_limit (file_at line 2) third (Ok c)) where
      carried_three : HoldsValue (bytes old) (file_at line 2) third c
      carried_three = moved_value (bytes old) (bytes then_mid) (file_at line 2) third c (both_stay (file_at line 2)) last_loads.loaded

      -- nothing is made of what all give
      pub three_last_none : (r : Result V Cause) (why : Cause) → IsErr r × IsErrAnd r (λ x. x ≡ why) → IsReadingCause (last a b c) why → LoadsLine limits bytes faults calls asked old new line holds r
      three_last_none r why passed refused =
          let files = bytes old in
          failed_on r why (LoadsLine limits bytes faults calls asked old new line holds) passed (record {
            held = tt;
            caused = three_last limits files (Rose (faults old) (faults new)) (AsksForFirst files (calls old) (calls new)) line (file_at line 0) (file_at line 1) (file_at line 2) (λ b. Just (read b)) (λ a b. Just (after a b)) third last
                three.named three.denoted a b c why loads.loaded moved_three carried_three refused;
            reads = reads_three (Ok c) last_loads;
          })

      pub three_held : (value : V) (input : Contents) → last a b c (Ok input) → (HasContentsBy limits (bytes old) line input → holds value) → LoadsLine limits bytes faults calls asked old new line holds (Ok value)
      three_held value input made has =
          let files = bytes old in
          record {
            held = has (three_input limits files (Rose (faults old) (faults new)) (AsksForFirst files (calls old) (calls new)) line (file_at line 0) (file_at line 1) (file_at line 2) (λ b. Just (read b)) (λ a b. Just (after a b)) third last
                three.named three.denoted a b c input loads.loaded moved_three carried_three made);
            caused = tt;
            reads = reads_three (Ok c) last_loads;
          }

-- ---- the answer to a line

-- a text is the answer of a command that is no check
done_text : (printed : Printed) (command : Command) (arguments : Arguments) (held : Contents) (text : List ℕ) → IsTextBy printed command arguments held text → AnswersBy printed command arguments held Done text
done_text printed Check arguments (contents.TableAndCertificate table certificate) text is = absurd is
done_text printed CheckRandom arguments (contents.ChoicesAndCertificate patches types certificate) text is = absurd is
done_text printed _ arguments _ text is = (refl, is)

module _ {D A : Type 0} {bytes : D → Files} {faults : D → List ℕ → ℕ} {calls : D → ℕ} {asked : D → Option Reads} {old new : D} {holds : A → Type 0} {input : A} (line : Line) (printed : Printed) where
  answered : (command : Command) (held : Contents) (result : Result Answer Cause) → line.command ≡ command → LoadsLine printed.limits bytes faults calls asked old new line holds (Ok input) → HasContentsBy printed.limits (bytes old) line held
      → MatchResult result (λ answer. AnswersBy printed command line.arguments held answer.status answer.text.items) (λ why. why ≡ NoMemory)
      → LoadsLine printed.limits bytes faults calls asked old new line (λ answer. AnswersLineBy printed (bytes old) line answer.status answer.text.items) result
  answered command held (Ok answer) is loads has answers = record {
    held = (held, has, subst (λ (c : Command). AnswersBy printed c line.arguments held answer.status answer.text.items) (sym is) answers);
    caused = tt;
    reads = loads.reads;
  }
  answered command held (Err why) is loads has none = record {
    held = tt;
    caused = subst (IsCause printed.limits (bytes old) (Rose (faults old) (faults new)) (AsksForFirst (bytes old) (calls old) (calls new)) line) (sym none) tt;
    reads = loads.reads;
  }

  -- by a text
  pub text_answered : (command : Command) (held : Contents) (text : Result (Vec ℕ Global) LeftNoMemory) (result : Result Answer Cause) → line.command ≡ command
      → LoadsLine printed.limits bytes faults calls asked old new line holds (Ok input) → HasContentsBy printed.limits (bytes old) line held → IfOk text (λ t. IsTextBy printed command line.arguments held t.items)
      → MatchResult result (λ answer. (answer.status ≡ Done) × (text ≡ Ok answer.text)) (λ why. why ≡ NoMemory)
      → LoadsLine printed.limits bytes faults calls asked old new line (λ answer. AnswersLineBy printed (bytes old) line answer.status answer.text.items) result
  text_answered command held text (Ok answer) is loads has says (done, made) =
      let text_is = subst (λ t. IfOk t (λ v. IsTextBy printed command line.arguments held v.items)) made says in
      answered command held (Ok answer) is loads has
      (subst (λ s. AnswersBy printed command line.arguments held s answer.text.items) (sym done) (done_text printed command line.arguments held answer.text.items text_is))
  text_answered command held text (Err why) is loads has says none = answered command held (Err why) is loads has none

  -- by an answer that is made whole
  pub whole_answered : (command : Command) (held : Contents) (whole : Result Answer LeftNoMemory) (result : Result Answer Cause) → line.command ≡ command
      → LoadsLine printed.limits bytes faults calls asked old new line holds (Ok input) → HasContentsBy printed.limits (bytes old) line held → IfOk whole (λ answer. AnswersBy printed command line.arguments held answer.status answer.text.items)
      → MatchResult result (λ answer. whole ≡ Ok answer) (λ why. why ≡ NoMemory)
      → LoadsLine printed.limits bytes faults calls asked old new line (λ answer. AnswersLineBy printed (bytes old) line answer.status answer.text.items) result
  whole_answered command held whole (Ok answer) is loads has says made =
      answered command held (Ok answer) is loads has (subst (λ t. IfOk t (λ (a : Answer). AnswersBy printed command line.arguments held a.status a.text.items)) made says)
  whole_answered command held whole (Err why) is loads has says none = answered command held (Err why) is loads has none
