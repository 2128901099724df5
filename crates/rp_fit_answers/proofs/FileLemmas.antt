-- What the content of a question's files gives the question.
use Rattle.std.proofs.Common.{◌≡◌, ◌<◌, ◌+◌, ℕ, zero, suc, Bool, false, List, [], Option, None, Some, Result, Ok, Err, MatchResult, codes, length, inl, inr, arith, refl, replicate, sym, subst, ap, ◌∙◌}
use Rattle.std.proofs.lemmas.Bool.{lt-ltb}
use Rattle.std.proofs.lemmas.List.{length-replicate}
use Rattle.std.specs.Prelude.{unwrap_or}
use Rattle.rp_commands.specs.FaultLines.{file_line}
use Rattle.rp_commands.specs.Readings.{Reading, TakenTable, WhereKnown}
use Rattle.rp_fit.specs.declared.item.FitItem.{FitItem}
use Rattle.rp_front.specs.Contents.{AreContents, AreRefused, Files, file_at, first_of}
use Rattle.rp_front.specs.InnerCauses.{IsCause}
use Rattle.rp_front.specs.declared.answer.Cause.{Cause}
use Rattle.rp_front.specs.declared.answer.Cause.TheVariants.{Read, Refused, NoMemory}
use Rattle.rp_limits.specs.declared.run.TheConstants.{MOST_BYTES, MOST_CERTIFICATE_BYTES}
use Rattle.rp_outside.specs.Known.{AreAll, AreMoreThan}
use Rattle.rp_table.specs.Tables.{Observations}
use Rattle.rp_fit_answers.specs.Contents.{CertificateIn, ContentsIn, Table, TableAndCertificate}
use Rattle.rp_fit_answers.specs.GoodnessOfFit.{goodness_of_fit}
use Rattle.rp_fit_answers.specs.InnerCauses.{HoldsValue, IsFileCause, IsReadingCause, IsRefusal}
use Rattle.rp_fit_answers.specs.InnerLoadings.{HasContents}
use Rattle.rp_fit_answers.specs.Questions.{CheckFit, Fit}
use Rattle.rp_fit_answers.proofs.Laws.{begins_unrefused}

-- some content of a file, and some that is too long where no shorter one is known
pub some_content : (known : Option (List ℕ)) → AreAll known (unwrap_or known [])
some_content None found is = cc is
some_content (Some bytes) found is = cc is

pub some_long : (known : Option (List ℕ)) (limit : ℕ) → AreMoreThan limit known → (bytes : List ℕ) × AreAll known bytes × (limit < length bytes)
some_long None limit long = (replicate (limit + 1) 0, (λ t is. cc is), omega (arith, length-replicate {A = ℕ} (limit + 1) 0))
some_long (Some bytes) limit long = (bytes, (λ t is. cc is), long bytes refl)

-- a table's file that is too long is refused as such, and so is a certificate's
pub long_table : (files : Files) (rose : List ℕ → Type 0) (file : List ℕ) (why : Cause) → AreMoreThan MOST_BYTES (files file) → IsRefusal (file_line file (codes "TooLong")) why
    → IsFileCause files rose file (TakenTable false file) why
long_table files rose file (Read name) long refused = absurd refused
long_table files rose file (Refused line) long refused =
    let some = some_long (files file) MOST_BYTES long in
    (some.0, some.1, rw (lt-ltb MOST_BYTES (length some.0) some.2) (ap Err (sym refused)))
long_table files rose file NoMemory long refused = tt

pub long_certificate : (files : Files) (rose : List ℕ → Type 0) (file : List ℕ) (why : Cause) → AreMoreThan MOST_CERTIFICATE_BYTES (files file) → IsRefusal (file_line file (codes "TooLong")) why
    → IsFileCause files rose file (CertificateIn file) why
long_certificate files rose file (Read name) long refused = absurd refused
long_certificate files rose file (Refused line) long refused =
    let some = some_long (files file) MOST_CERTIFICATE_BYTES long in
    (some.0, some.1, inl (some.2, refused))
long_certificate files rose file NoMemory long refused = tt

-- what is read of all bytes of a file is what the file gives
pub read_loaded : {A : Type 0} (files : Files) (rose : List ℕ → Type 0) (file : List ℕ) (reading : List ℕ → Reading A) (bytes : List ℕ) → AreAll (files file) bytes
    → (result : Result A Cause) → MatchResult result (λ value. reading bytes (Ok value)) (IsReadingCause (reading bytes)) → MatchResult result (HoldsValue files file reading) (IsFileCause files rose file reading)
read_loaded files rose file reading bytes all (Ok value) is = (bytes, all, is)
read_loaded files rose file reading bytes all (Err (Read name)) is = absurd is
read_loaded files rose file reading bytes all (Err (Refused line)) is = (bytes, all, is)
read_loaded files rose file reading bytes all (Err NoMemory) is = tt

-- a cause and a value of a file, for files of the same contents and counts that rose since earlier
pub moved_cause : {A : Type 0} (files later : Files) (rose since : List ℕ → Type 0) (file : List ℕ) (reading : List ℕ → Reading A) (why : Cause)
    → later file ≡ files file → (since file → rose file) → IsFileCause later since file reading why → IsFileCause files rose file reading why
moved_cause files later rose since file reading (Read name) same up (is, rises) = (is, up rises)
moved_cause files later rose since file reading (Refused line) same up (bytes, content, refused) = (bytes, (λ known is. content known (same ∙ is)), refused)
moved_cause files later rose since file reading NoMemory same up none = tt

pub moved_value : {A : Type 0} (files later : Files) (file : List ℕ) (reading : List ℕ → Reading A) (value : A)
    → later file ≡ files file → HoldsValue later file reading value → HoldsValue files file reading value
moved_value files later file reading value same (bytes, content, read) = (bytes, (λ known is. content known (same ∙ is)), read)

-- ---- the indices of a table

module _ (files : Files) (name : List ℕ) (json : Bool) where
  held_one : (bytes : List ℕ) → AreAll (files name) bytes → AreContents goodness_of_fit files (Fit name json) (λ k. bytes)
  held_one bytes held zero within = held
  held_one bytes held (suc k) within = absurd (omega (arith, within))

  pub one_contents : (table : Observations) → HoldsValue files name (TakenTable false name) table → HasContents files (Fit name json) (Table table)
  one_contents table (bytes, held, read) = ((λ k. bytes), held_one bytes held, (table, read, refl))

  pub one_cause : (rose : List ℕ → Type 0) (asks : ℕ → Type 0) (why : Cause) → asks 1 → IsFileCause files rose name (TakenTable false name) why → IsCause goodness_of_fit files rose asks (Fit name json) why
  one_cause rose asks (Read file) once (is, risen) = (
    0,
    record {
      within = omega arith;
      risen = risen;
      after_those = ((λ k. []), (λ k within. absurd (omega (arith, within))), λ line refused. begins_unrefused (Fit name json) (first_of (λ k. []) 0) line refl refused);
      none_after = once;
    },
    is,
  )
  one_cause rose asks (Refused line) once (bytes, held, refused) = ((λ k. bytes), held_one bytes held, inl refused)
  one_cause rose asks NoMemory once none = tt

-- ---- the check of a certificate on a table

abbrev pub two : List ℕ → List ℕ → ℕ → List ℕ
two first second zero = first
two first second (suc k) = second

module _ (files : Files) (name file : List ℕ) where
  held_two : (first second : List ℕ) → AreAll (files name) first → AreAll (files file) second → AreContents goodness_of_fit files (CheckFit name file) (two first second)
  held_two first second held also zero within = held
  held_two first second held also (suc zero) within = also
  held_two first second held also (suc (suc k)) within = absurd (omega (arith, within))

  pub two_contents : (table : Observations) (items : List FitItem) → HoldsValue files name (TakenTable false name) table → HoldsValue files file (CertificateIn file) items
      → HasContents files (CheckFit name file) (TableAndCertificate table items)
  two_contents table items (first, held, read) (second, also, denoted) = (two first second, held_two first second held also, (table, read, (items, denoted, refl)))

  pub first_cause : (rose : List ℕ → Type 0) (asks : ℕ → Type 0) (why : Cause) → asks 1 → IsFileCause files rose name (TakenTable false name) why → IsCause goodness_of_fit files rose asks (CheckFit name file) why
  first_cause rose asks (Read read) once (is, risen) = (
    0,
    record {
      within = omega arith;
      risen = risen;
      after_those = ((λ k. []), (λ k within. absurd (omega (arith, within))), λ line refused. begins_unrefused (CheckFit name file) (first_of (λ k. []) 0) line refl refused);
      none_after = once;
    },
    is,
  )
  first_cause rose asks (Refused line) once (bytes, held, refused) =
      (two bytes (unwrap_or (files file) []), held_two bytes (unwrap_or (files file) []) held (some_content (files file)), inl refused)
  first_cause rose asks NoMemory once none = tt

  -- where the table is held
  module _ (table : Observations) (first : List ℕ) (held : AreAll (files name) first) (read : TakenTable false name first (Ok table)) where
    first_held : (k : ℕ) → k < 1 → AreAll (files (file_at goodness_of_fit (CheckFit name file) k)) first
    first_held zero within = held
    first_held (suc k) within = absurd (omega (arith, within))

    unrefused : (line : List ℕ) → ContentsIn (CheckFit name file) (first_of (λ k. first) 1) (Err line) → ⊥
    unrefused line (inl refused) = cc refused
    unrefused line (inr (other, also, inl none)) = none
    unrefused line (inr (other, also, inr (items, none, made))) = none

    then_cause : (rose : List ℕ → Type 0) (asks : ℕ → Type 0) (why : Cause) → asks 2 → IsFileCause files rose file (CertificateIn file) why → IsCause goodness_of_fit files rose asks (CheckFit name file) why
    then_cause rose asks (Read found) once (is, risen) = (
      1,
      record {
        within = omega arith;
        risen = risen;
        after_those = ((λ k. first), first_held, unrefused);
        none_after = once;
      },
      is,
    )
    then_cause rose asks (Refused line) once (second, also, refused) = (two first second, held_two first second held also, inr (table, read, inl refused))
    then_cause rose asks NoMemory once none = tt

    known_untaken : (known : Option (List ℕ)) (line : List ℕ) → AreAll known first → WhereKnown (TakenTable false name) known (Err line) → ⊥
    known_untaken None line all refused = refused
    known_untaken (Some bytes) line all refused =
        let also = subst (λ b. TakenTable false name b (Ok table)) (all bytes refl) read in cc also

    taken_first : AreRefused goodness_of_fit files (CheckFit name file) 1 → ⊥
    taken_first (line, inl refused) = known_untaken (files name) line held refused
    taken_first (line, inr (other, also, inl none)) = none
    taken_first (line, inr (other, also, inr (items, none, made))) = none

  pub second_cause : (table : Observations) → HoldsValue files name (TakenTable false name) table → (rose : List ℕ → Type 0) (asks : ℕ → Type 0) (why : Cause) → asks 2 → IsFileCause files rose file (CertificateIn file) why
      → IsCause goodness_of_fit files rose asks (CheckFit name file) why
  second_cause table (first, held, read) = then_cause table first held read

  pub taken : (table : Observations) → HoldsValue files name (TakenTable false name) table → AreRefused goodness_of_fit files (CheckFit name file) 1 → ⊥
  taken table (first, held, read) = taken_first table first held read
