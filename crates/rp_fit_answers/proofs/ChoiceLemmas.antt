-- What reading the two files of a question on random choices gives the question, from what reading each of them gave.
use Rattle.std.proofs.Common.{◌≡◌, ◌<◌, ◌≤◌, ◌+◌, ◌∙◌, ℕ, zero, suc, List, [], ◌∷◌, Option, None, Some, Result, Ok, Err, codes, length, inl, inr, arith, refl, sym, subst, ap}
use Rattle.std.proofs.lemmas.Bool.{lt-ltb}
use Rattle.std.specs.Prelude.{unwrap_or}
use Rattle.rp_outside.specs.Asked.{Reads}
use Rattle.rp_outside.specs.Known.{AreAll, AreMoreThan}
use Rattle.rp_outside.specs.Reads.{calls_through}
use Rattle.rp_commands.specs.FaultLines.{file_line}
use Rattle.rp_commands.specs.Readings.{NumbersIn, WhereKnown}
use Rattle.rp_front.specs.Contents.{AreContents, AreRefused, Files, file_at, first_of}
use Rattle.rp_front.specs.Endings.{Rose}
use Rattle.rp_front.specs.InnerCauses.{IsCause}
use Rattle.rp_front.specs.Turns.{AsksForFirst}
use Rattle.rp_front.specs.declared.answer.Cause.{Cause}
use Rattle.rp_front.specs.declared.answer.Cause.TheVariants.{Read, Refused, NoMemory}
use Rattle.rp_front.proofs.GainsLemmas.{rises_later}
use Rattle.rp_front.proofs.TurnLemmas.{asks_one, asks_two, first_asked, first_turn, second_asked, second_turn}
use Rattle.rp_limits.specs.declared.run.TheConstants.{MOST_BYTES}
use Rattle.rp_patch.specs.Patches.{PatchList}
use Rattle.rp_sheet.specs.declared.fault.TableFault.{TableFault}
use Rattle.rp_table.specs.BudgetLists.{BudgetList}
use Rattle.rp_text.specs.Denotation.{budgets_in}
use Rattle.rp_types.specs.declared.types.Rational.{Rational}
use Rattle.rp_fit_answers.specs.Contents.{Choices, ChosenIn, ContentsIn}
use Rattle.rp_fit_answers.specs.GoodnessOfFit.{goodness_of_fit}
use Rattle.rp_fit_answers.specs.InnerCauses.{HoldsValue, IsFileCause, IsRefusal}
use Rattle.rp_fit_answers.specs.InnerLoadings.{HasContents, LoadsAsked, LoadsFile}
use Rattle.rp_fit_answers.specs.Questions.{RandomWithin}
use Rattle.rp_fit_answers.specs.RandomWords.{Asking, units_of}
use Rattle.rp_fit_answers.proofs.FileLemmas.{moved_cause, moved_value, some_content, some_long, two}
use Rattle.rp_fit_answers.proofs.Laws.{begins_unrefused}
use Rattle.rp_fit_answers.proofs.LoadLemmas.{calls_later}

-- a file of numbers that is too long is refused as such, and so is one of choices
pub long_numbers : {A : Type 0} (reading : List ℕ → Result A TableFault) (files : Files) (rose : List ℕ → Type 0) (file : List ℕ) (why : Cause) → AreMoreThan MOST_BYTES (files file)
    → IsRefusal (file_line file (codes "TooLong")) why → IsFileCause files rose file (NumbersIn file reading) why
long_numbers reading files rose file (Read name) long refused = absurd refused
long_numbers reading files rose file (Refused line) long refused =
    let some = some_long (files file) MOST_BYTES long in
    (some.0, some.1, rw (lt-ltb MOST_BYTES (length some.0) some.2) (ap Err (sym refused)))
long_numbers reading files rose file NoMemory long refused = tt

pub long_choices : (budgets : BudgetList) (per : Option ℕ) (files : Files) (rose : List ℕ → Type 0) (file : List ℕ) (why : Cause) → AreMoreThan MOST_BYTES (files file)
    → IsRefusal (file_line file (codes "TooLong")) why → IsFileCause files rose file (ChosenIn budgets per file) why
long_choices budgets per files rose file (Read name) long refused = absurd refused
long_choices budgets per files rose file (Refused line) long refused =
    let some = some_long (files file) MOST_BYTES long in
    (some.0, some.1, inl (rw (lt-ltb MOST_BYTES (length some.0) some.2) (ap Err (sym refused))))
long_choices budgets per files rose file NoMemory long refused = tt

module _ (files : Files) (a : Asking) where
  held_two : (first second : List ℕ) → AreAll (files a.budgets) first → AreAll (files a.choices) second → AreContents goodness_of_fit files (RandomWithin a) (two first second)
  held_two first second held also zero within = held
  held_two first second held also (suc zero) within = also
  held_two first second held also (suc (suc k)) within = absurd (omega (arith, within))

  pub two_contents : (budgets : BudgetList) (made : PatchList × Option (List Rational)) → HoldsValue files a.budgets (NumbersIn a.budgets budgets_in) budgets
      → HoldsValue files a.choices (ChosenIn budgets (units_of a) a.choices) made → HasContents files (RandomWithin a) (Choices made.0 made.1)
  two_contents budgets made (first, held, read) (second, also, chosen) = (two first second, held_two first second held also, (budgets, read, (made, chosen, refl)))

  pub first_cause : (rose : List ℕ → Type 0) (asks : ℕ → Type 0) (why : Cause) → asks 1 → IsFileCause files rose a.budgets (NumbersIn a.budgets budgets_in) why → IsCause goodness_of_fit files rose asks (RandomWithin a) why
  first_cause rose asks (Read read) once (is, risen) = (
    0,
    record {
      within = omega arith;
      risen = risen;
      after_those = ((λ k. []), (λ k within. absurd (omega (arith, within))), λ line refused. begins_unrefused (RandomWithin a) (first_of (λ k. []) 0) line refl refused);
      none_after = once;
    },
    is,
  )
  first_cause rose asks (Refused line) once (bytes, held, refused) =
      (two bytes (unwrap_or (files a.choices) []), held_two bytes (unwrap_or (files a.choices) []) held (some_content (files a.choices)), inl refused)
  first_cause rose asks NoMemory once none = tt

  -- where the budgets are held
  module _ (budgets : BudgetList) (first : List ℕ) (held : AreAll (files a.budgets) first) (read : NumbersIn a.budgets budgets_in first (Ok budgets)) where
    first_held : (k : ℕ) → k < 1 → AreAll (files (file_at goodness_of_fit (RandomWithin a) k)) first
    first_held zero within = held
    first_held (suc k) within = absurd (omega (arith, within))

    unrefused : (line : List ℕ) → ContentsIn (RandomWithin a) (first_of (λ k. first) 1) (Err line) → ⊥
    unrefused line (inl refused) = cc refused
    unrefused line (inr (other, also, inl none)) = none
    unrefused line (inr (other, also, inr (made, none, is))) = none

    then_cause : (rose : List ℕ → Type 0) (asks : ℕ → Type 0) (why : Cause) → asks 2 → IsFileCause files rose a.choices (ChosenIn budgets (units_of a) a.choices) why → IsCause goodness_of_fit files rose asks (RandomWithin a) why
    then_cause rose asks (Read found) once (is, risen) = (
      1,
      record {
        within = omega arith;
        risen = risen;
        after_those = ((λ k. first), first_held, unrefused);
        none_after = once;
      },
      is,
    )
    then_cause rose asks (Refused line) once (second, also, refused) = (two first second, held_two first second held also, inr (budgets, read, inl refused))
    then_cause rose asks NoMemory once none = tt

    known_untaken : (known : Option (List ℕ)) (line : List ℕ) → AreAll known first → WhereKnown (NumbersIn a.budgets budgets_in) known (Err line) → ⊥
    known_untaken None line all refused = refused
    known_untaken (Some bytes) line all refused =
        let also = subst (λ b. NumbersIn a.budgets budgets_in b (Ok budgets)) (all bytes refl) read in cc also

    taken_first : AreRefused goodness_of_fit files (RandomWithin a) 1 → ⊥
    taken_first (line, inl refused) = known_untaken (files a.budgets) line held refused
    taken_first (line, inr (other, also, inl none)) = none
    taken_first (line, inr (other, also, inr (made, none, is))) = none

  pub second_cause : (budgets : BudgetList) → HoldsValue files a.budgets (NumbersIn a.budgets budgets_in) budgets → (rose : List ℕ → Type 0) (asks : ℕ → Type 0) (why : Cause) → asks 2
      → IsFileCause files rose a.choices (ChosenIn budgets (units_of a) a.choices) why → IsCause goodness_of_fit files rose asks (RandomWithin a) why
  second_cause budgets (first, held, read) = then_cause budgets first held read

  pub taken : (budgets : BudgetList) → HoldsValue files a.budgets (NumbersIn a.budgets budgets_in) budgets → AreRefused goodness_of_fit files (RandomWithin a) 1 → ⊥
  taken budgets (first, held, read) = taken_first budgets first held read

module _ {D : Type 0} {bytes : D → Files} {faults : D → List ℕ → ℕ} {calls : D → ℕ} {asked : D → Option Reads} {A : Type 0} (holds : A → Type 0) (a : Asking) where
  pub first_none : (old new : D) (why : Cause) → LoadsFile {A = BudgetList} bytes faults calls asked old new MOST_BYTES a.budgets (NumbersIn a.budgets budgets_in) (Err why)
      → LoadsAsked bytes faults calls asked old new (RandomWithin a) holds (Err why)
  first_none old new why loads = record {
    held = tt;
    caused = first_cause (bytes old) a (Rose (faults old) (faults new)) (AsksForFirst goodness_of_fit (bytes old) (calls old) (calls new) (RandomWithin a)) why
        (asks_one goodness_of_fit begins_unrefused (bytes old) (RandomWithin a) (calls_through MOST_BYTES (bytes old a.budgets)) (calls_through MOST_BYTES (bytes old a.choices) ∷ []) refl _ _ loads.read_through) loads.loaded;
    in_turn = first_turn goodness_of_fit begins_unrefused (bytes old) (RandomWithin a) (calls_through MOST_BYTES (bytes old a.budgets)) (calls_through MOST_BYTES (bytes old a.choices) ∷ []) refl _ _ 1 refl loads.read_through;
    by_name = first_asked goodness_of_fit begins_unrefused (bytes old) (RandomWithin a) a.budgets (a.choices ∷ []) _ _ refl loads.asks_at_most_once;
    bytes_stay = loads.bytes_stay;
    never_falls = loads.never_falls;
  }

  module _ (old mid new : D) (budgets : BudgetList) (loads : LoadsFile bytes faults calls asked old mid MOST_BYTES a.budgets (NumbersIn a.budgets budgets_in) (Ok budgets)) where
    also : calls new ≤ calls mid + calls_through MOST_BYTES (bytes mid a.choices) → calls new ≤ calls mid + calls_through MOST_BYTES (bytes old a.choices)
    also through = calls_later (bytes old) (bytes mid) a.choices MOST_BYTES (calls mid) (calls new) (loads.bytes_stay a.choices) through

    pub second_none : (why : Cause) → LoadsFile {A = PatchList × Option (List Rational)} bytes faults calls asked mid new MOST_BYTES a.choices (ChosenIn budgets (units_of a) a.choices) (Err why)
        → LoadsAsked bytes faults calls asked old new (RandomWithin a) holds (Err why)
    second_none why then_loads =
        let moved = moved_cause (bytes old) (bytes mid) (Rose (faults old) (faults new)) (Rose (faults mid) (faults new)) a.choices (ChosenIn budgets (units_of a) a.choices) why (loads.bytes_stay a.choices)
        (λ up. rises_later (faults old a.choices) (faults mid a.choices) (faults new a.choices) (loads.never_falls a.choices) up) then_loads.loaded in
        record {
          held = tt;
          caused = second_cause (bytes old) a budgets loads.loaded (Rose (faults old) (faults new)) (AsksForFirst goodness_of_fit (bytes old) (calls old) (calls new) (RandomWithin a)) why
              (asks_two goodness_of_fit begins_unrefused (bytes old) (RandomWithin a) (calls_through MOST_BYTES (bytes old a.budgets)) (calls_through MOST_BYTES (bytes old a.choices)) [] refl _ _ _ loads.read_through (also then_loads.read_through)) moved;
          in_turn = second_turn goodness_of_fit begins_unrefused (bytes old) (RandomWithin a) (calls_through MOST_BYTES (bytes old a.budgets)) (calls_through MOST_BYTES (bytes old a.choices)) [] refl _ _ _ 0 refl
              loads.read_through (also then_loads.read_through) (taken (bytes old) a budgets loads.loaded);
          by_name = second_asked goodness_of_fit begins_unrefused (bytes old) (RandomWithin a) a.budgets a.choices [] _ _ _ refl loads.asks_once then_loads.asks_at_most_once (taken (bytes old) a budgets loads.loaded);
          bytes_stay = λ n. then_loads.bytes_stay n ∙ loads.bytes_stay n;
          never_falls = λ n. omega (arith, loads.never_falls n, then_loads.never_falls n);
        }

    pub both_held : (made : PatchList × Option (List Rational)) (value : A) → LoadsFile bytes faults calls asked mid new MOST_BYTES a.choices (ChosenIn budgets (units_of a) a.choices) (Ok made)
        → (HasContents (bytes old) (RandomWithin a) (Choices made.0 made.1) → holds value) → LoadsAsked bytes faults calls asked old new (RandomWithin a) holds (Ok value)
    both_held made value then_loads has = record {
      held = has (two_contents (bytes old) a budgets made loads.loaded (moved_value (bytes old) (bytes mid) a.choices (ChosenIn budgets (units_of a) a.choices) made (loads.bytes_stay a.choices) then_loads.loaded));
      caused = tt;
      in_turn = second_turn goodness_of_fit begins_unrefused (bytes old) (RandomWithin a) (calls_through MOST_BYTES (bytes old a.budgets)) (calls_through MOST_BYTES (bytes old a.choices)) [] refl _ _ _ 0 refl
          loads.read_through (also then_loads.read_through) (taken (bytes old) a budgets loads.loaded);
      by_name = second_asked goodness_of_fit begins_unrefused (bytes old) (RandomWithin a) a.budgets a.choices [] _ _ _ refl loads.asks_once then_loads.asks_at_most_once (taken (bytes old) a budgets loads.loaded);
      bytes_stay = λ n. then_loads.bytes_stay n ∙ loads.bytes_stay n;
      never_falls = λ n. omega (arith, loads.never_falls n, then_loads.never_falls n);
    }
