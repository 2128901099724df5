-- What the loader of a question's files gives, from what loading each of them gave, and the answer to it.
use Rattle.std.proofs.Common.{◌≡◌, ◌≤◌, ◌+◌, ◌∙◌, ℕ, Bool, false, List, [], ◌∷◌, Option, Result, Ok, Err, IfOk, MatchResult, refl, subst, sym, arith}
use Rattle.rp_outside.specs.Asked.{Reads}
use Rattle.rp_outside.specs.Reads.{calls_through}
use Rattle.rp_commands.specs.Readings.{TakenTable}
use Rattle.rp_fit.specs.declared.item.FitItem.{FitItem}
use Rattle.rp_front.specs.Contents.{AnswersWith, Files}
use Rattle.rp_front.specs.Endings.{Rose}
use Rattle.rp_front.specs.InnerCauses.{IsCause}
use Rattle.rp_front.specs.Turns.{AsksForFirst}
use Rattle.rp_front.specs.declared.answer.Answer.{Answer}
use Rattle.rp_front.specs.declared.answer.Cause.{Cause}
use Rattle.rp_front.specs.declared.answer.Cause.TheVariants.{NoMemory}
use Rattle.rp_num.specs.declared.NoMemory.{NoMemory as LeftNoMemory}
use Rattle.rp_front.proofs.GainsLemmas.{rises_later}
use Rattle.rp_front.proofs.TurnLemmas.{asks_one, asks_two, first_asked, first_turn, second_asked, second_turn}
use Rattle.rp_limits.specs.declared.run.TheConstants.{MOST_BYTES, MOST_CERTIFICATE_BYTES}
use Rattle.rp_table.specs.Tables.{Observations}
use Rattle.rp_fit_answers.specs.Answers.{AnswersHeld}
use Rattle.rp_fit_answers.specs.Contents.{CertificateIn, Held, Table, TableAndCertificate}
use Rattle.rp_fit_answers.specs.GoodnessOfFit.{goodness_of_fit}
use Rattle.rp_fit_answers.specs.InnerLoadings.{HasContents, LoadsAsked, LoadsFile}
use Rattle.rp_fit_answers.specs.Questions.{CheckFit, Fit, Question}
use Rattle.rp_fit_answers.proofs.FileLemmas.{first_cause, moved_cause, moved_value, one_cause, one_contents, second_cause, taken, two_contents}
use Rattle.rp_fit_answers.proofs.Laws.{begins_unrefused}

-- the calls for a file, for files of the same contents
pub calls_later : (files later : Files) (file : List ℕ) (limit before after : ℕ) → later file ≡ files file → after ≤ before + calls_through limit (later file) → after ≤ before + calls_through limit (files file)
calls_later files later file limit before after same most = subst (λ known. after ≤ before + calls_through limit known) same most

module _ {D : Type 0} {bytes : D → Files} {faults : D → List ℕ → ℕ} {calls : D → ℕ} {asked : D → Option Reads} where
  -- ---- one file
  module _ (old new : D) (name : List ℕ) (json : Bool) where
    pub one_loads : (r : Result Observations Cause) → LoadsFile bytes faults calls asked old new MOST_BYTES name (TakenTable false name) r
        → LoadsAsked bytes faults calls asked old new (Fit name json) (λ held. HasContents (bytes old) (Fit name json) (Table held)) r
    one_loads (Ok table) loads = record {
      held = one_contents (bytes old) name json table loads.loaded;
      caused = tt;
      in_turn = first_turn goodness_of_fit begins_unrefused (bytes old) (Fit name json) (calls_through MOST_BYTES (bytes old name)) [] refl _ _ 0 refl loads.read_through;
      by_name = first_asked goodness_of_fit begins_unrefused (bytes old) (Fit name json) name [] _ _ refl loads.asks_at_most_once;
      bytes_stay = loads.bytes_stay;
      never_falls = loads.never_falls;
    }
    one_loads (Err why) loads = record {
      held = tt;
      caused = one_cause (bytes old) name json (Rose (faults old) (faults new)) (AsksForFirst goodness_of_fit (bytes old) (calls old) (calls new) (Fit name json)) why
          (asks_one goodness_of_fit begins_unrefused (bytes old) (Fit name json) (calls_through MOST_BYTES (bytes old name)) [] refl _ _ loads.read_through) loads.loaded;
      in_turn = first_turn goodness_of_fit begins_unrefused (bytes old) (Fit name json) (calls_through MOST_BYTES (bytes old name)) [] refl _ _ 0 refl loads.read_through;
      by_name = first_asked goodness_of_fit begins_unrefused (bytes old) (Fit name json) name [] _ _ refl loads.asks_at_most_once;
      bytes_stay = loads.bytes_stay;
      never_falls = loads.never_falls;
    }

  -- ---- two files
  module _ {A : Type 0} (holds : A → Type 0) (name file : List ℕ) where
    pub two_first_none : (old new : D) (why : Cause) → LoadsFile {A = Observations} bytes faults calls asked old new MOST_BYTES name (TakenTable false name) (Err why)
        → LoadsAsked bytes faults calls asked old new (CheckFit name file) holds (Err why)
    two_first_none old new why loads = record {
      held = tt;
      caused = first_cause (bytes old) name file (Rose (faults old) (faults new)) (AsksForFirst goodness_of_fit (bytes old) (calls old) (calls new) (CheckFit name file)) why
          (asks_one goodness_of_fit begins_unrefused (bytes old) (CheckFit name file) (calls_through MOST_BYTES (bytes old name)) (calls_through MOST_CERTIFICATE_BYTES (bytes old file) ∷ []) refl _ _ loads.read_through) loads.loaded;
      in_turn = first_turn goodness_of_fit begins_unrefused (bytes old) (CheckFit name file) (calls_through MOST_BYTES (bytes old name)) (calls_through MOST_CERTIFICATE_BYTES (bytes old file) ∷ []) refl _ _ 1 refl loads.read_through;
      by_name = first_asked goodness_of_fit begins_unrefused (bytes old) (CheckFit name file) name (file ∷ []) _ _ refl loads.asks_at_most_once;
      bytes_stay = loads.bytes_stay;
      never_falls = loads.never_falls;
    }

    module _ (old mid new : D) (table : Observations) (loads : LoadsFile bytes faults calls asked old mid MOST_BYTES name (TakenTable false name) (Ok table)) where
      also : calls new ≤ calls mid + calls_through MOST_CERTIFICATE_BYTES (bytes mid file) → calls new ≤ calls mid + calls_through MOST_CERTIFICATE_BYTES (bytes old file)
      also through = calls_later (bytes old) (bytes mid) file MOST_CERTIFICATE_BYTES (calls mid) (calls new) (loads.bytes_stay file) through

      pub two_second_none : (why : Cause) → LoadsFile {A = List FitItem} bytes faults calls asked mid new MOST_CERTIFICATE_BYTES file (CertificateIn file) (Err why)
          → LoadsAsked bytes faults calls asked old new (CheckFit name file) holds (Err why)
      two_second_none why then_loads =
          let moved = moved_cause (bytes old) (bytes mid) (Rose (faults old) (faults new)) (Rose (faults mid) (faults new)) file (CertificateIn file) why (loads.bytes_stay file)
          (λ up. rises_later (faults old file) (faults mid file) (faults new file) (loads.never_falls file) up) then_loads.loaded in
          record {
            held = tt;
            caused = second_cause (bytes old) name file table loads.loaded (Rose (faults old) (faults new)) (AsksForFirst goodness_of_fit (bytes old) (calls old) (calls new) (CheckFit name file)) why
                (asks_two goodness_of_fit begins_unrefused (bytes old) (CheckFit name file) (calls_through MOST_BYTES (bytes old name)) (calls_through MOST_CERTIFICATE_BYTES (bytes old file)) [] refl _ _ _ loads.read_through (also then_loads.read_through)) moved;
            in_turn = second_turn goodness_of_fit begins_unrefused (bytes old) (CheckFit name file) (calls_through MOST_BYTES (bytes old name)) (calls_through MOST_CERTIFICATE_BYTES (bytes old file)) [] refl _ _ _ 0 refl
                loads.read_through (also then_loads.read_through) (taken (bytes old) name file table loads.loaded);
            by_name = second_asked goodness_of_fit begins_unrefused (bytes old) (CheckFit name file) name file [] _ _ _ refl loads.asks_once then_loads.asks_at_most_once (taken (bytes old) name file table loads.loaded);
            bytes_stay = λ n. then_loads.bytes_stay n ∙ loads.bytes_stay n;
            never_falls = λ n. omega (arith, loads.never_falls n, then_loads.never_falls n);
          }

      pub two_held : (items : List FitItem) (value : A) → LoadsFile bytes faults calls asked mid new MOST_CERTIFICATE_BYTES file (CertificateIn file) (Ok items)
          → (HasContents (bytes old) (CheckFit name file) (TableAndCertificate table items) → holds value)
          → LoadsAsked bytes faults calls asked old new (CheckFit name file) holds (Ok value)
      two_held items value then_loads has = record {
        held = has (two_contents (bytes old) name file table items loads.loaded (moved_value (bytes old) (bytes mid) file (CertificateIn file) items (loads.bytes_stay file) then_loads.loaded));
        caused = tt;
        in_turn = second_turn goodness_of_fit begins_unrefused (bytes old) (CheckFit name file) (calls_through MOST_BYTES (bytes old name)) (calls_through MOST_CERTIFICATE_BYTES (bytes old file)) [] refl _ _ _ 0 refl
            loads.read_through (also then_loads.read_through) (taken (bytes old) name file table loads.loaded);
        by_name = second_asked goodness_of_fit begins_unrefused (bytes old) (CheckFit name file) name file [] _ _ _ refl loads.asks_once then_loads.asks_at_most_once (taken (bytes old) name file table loads.loaded);
        bytes_stay = λ n. then_loads.bytes_stay n ∙ loads.bytes_stay n;
        never_falls = λ n. omega (arith, loads.never_falls n, then_loads.never_falls n);
      }

  -- ---- the answer
  module _ {A B : Type 0} {holds : A → Type 0} {old new : D} (question : Question) where
    -- where nothing is had
    pub unanswered : (others : B → Type 0) (why : Cause) → LoadsAsked bytes faults calls asked old new question holds (Err why) → LoadsAsked bytes faults calls asked old new question others (Err why)
    unanswered others why loads = record {
      held = tt;
      caused = loads.caused;
      in_turn = loads.in_turn;
      by_name = loads.by_name;
      bytes_stay = loads.bytes_stay;
      never_falls = loads.never_falls;
    }

  module _ {A : Type 0} {holds : A → Type 0} {old new : D} (question : Question) where
    pub answered : (held : Held) (value : A) → LoadsAsked bytes faults calls asked old new question holds (Ok value) → HasContents (bytes old) question held
        → (result : Result Answer Cause) → MatchResult result (λ answer. AnswersHeld question held answer.status answer.text.items × (answer.told.items ≡ [])) (λ why. why ≡ NoMemory)
        → LoadsAsked bytes faults calls asked old new question (λ answer. AnswersWith goodness_of_fit (bytes old) question answer.status answer.text.items answer.told.items) result
    answered held value loads (known, has, holds_it) (Ok answer) (is, none) = record {
      held = (known, has, ((held, holds_it, is), none));
      caused = tt;
      in_turn = loads.in_turn;
      by_name = loads.by_name;
      bytes_stay = loads.bytes_stay;
      never_falls = loads.never_falls;
    }
    answered held value loads has (Err why) is = record {
      held = tt;
      caused = subst (IsCause goodness_of_fit (bytes old) (Rose (faults old) (faults new)) (AsksForFirst goodness_of_fit (bytes old) (calls old) (calls new) question) question) (sym is) tt;
      in_turn = loads.in_turn;
      by_name = loads.by_name;
      bytes_stay = loads.bytes_stay;
      never_falls = loads.never_falls;
    }

    -- by an answer that is made whole
    pub answered_whole : (held : Held) (value : A) → LoadsAsked bytes faults calls asked old new question holds (Ok value) → HasContents (bytes old) question held
        → (whole : Result Answer LeftNoMemory) → IfOk whole (λ answer. AnswersHeld question held answer.status answer.text.items × (answer.told.items ≡ []))
        → (result : Result Answer Cause) → MatchResult result (λ answer. whole ≡ Ok answer) (λ why. why ≡ NoMemory)
        → LoadsAsked bytes faults calls asked old new question (λ answer. AnswersWith goodness_of_fit (bytes old) question answer.status answer.text.items answer.told.items) result
    answered_whole held value loads has whole says (Ok answer) made =
        answered held value loads has (Ok answer) (subst (λ t. IfOk t (λ (a : Answer). AnswersHeld question held a.status a.text.items × (a.told.items ≡ []))) made says)
    answered_whole held value loads has whole says (Err why) none = answered held value loads has (Err why) none
