-- What the content of a line's files gives the line.
use Rattle.std.proofs.Common.{◌≡◌, ℕ, zero, suc, ◌+◌, ◌<◌, Bool, true, false, List, [], ◌∷◌, length, Option, Some, None, Result, Ok, Err, IfOk, IfErr, inl, inr, refl, sym, ap, ◌∙◌, subst, arith, lit<, codes, replicate, slice_index_or, if◌then◌else◌}
use Rattle.std.proofs.lemmas.Bool.{lt-ltb}
use Rattle.std.proofs.lemmas.List.{length-replicate}
use Rattle.std.specs.Option.{ForSome}
use Rattle.std.specs.Result.{IsErr, IsErrAnd}
use Rattle.std.specs.Prelude.{unwrap_or}
use Rattle.rp_evidence.specs.declared.certificate.Kind.{Kind}
use Rattle.rp_table.specs.Tables.{Observations}
use Rattle.rp_text.specs.Denotation.{table_in}
use Rattle.rp_answers.specs.declared.choice_limits.ChoiceLimits.{ChoiceLimits}
use Rattle.rp_command_line.specs.CommandLine.{Line, files_of}
use Rattle.rp_outside.specs.Known.{AreAll}
use Rattle.rp_commands.specs.Answers.{Files, AreContents, HasContentsBy}
use Rattle.rp_commands.proofs.ChosenInFiles.{of_the_files}
use Rattle.rp_commands.specs.Contents.{Contents, DenotesBy}
use Rattle.rp_commands.specs.InnerLoadings.{MayHaveLevels}
use Rattle.rp_commands.specs.Readings.{AndThen, CertificateIn, Just, NumbersIn, Reading, TakenTable, all_bytes, and_unless_levelled, refuses_levels, unless_levelled}
use Rattle.rp_limits.specs.declared.run.TheConstants.{MOST_BYTES, MOST_CERTIFICATE_BYTES}
use Rattle.rp_commands.specs.FaultLines.{file_line}
use Rattle.rp_commands.specs.InnerCauses.{IsLoaded, IsRefusal, IsFileCause, IsReadingCause, HoldsValue, IsCause}
use Rattle.rp_commands.specs.declared.files.Cause.{Cause}
use Rattle.rp_commands.specs.declared.files.Cause.TheVariants.{Read, Refused, NoMemory}

-- some content that is longer than a limit, where no other is known
pub some_long : (known : Option (List ℕ)) (limit : ℕ) → ForSome known (λ bytes. limit < length bytes) → (bytes : List ℕ) × ForSome known (λ t. bytes ≡ t) × (limit < length bytes)
some_long None limit long = (replicate (limit + 1) 0, (λ t is. cc), omega (arith, length-replicate {A = ℕ} (limit + 1) 0))
some_long (Some bytes) limit long = (bytes, (λ t is. cc), long bytes refl)

-- a file that is too long is refused as such
pub too_long : (files : Files) (rose : List ℕ → Type 0) (file : List ℕ) (why : Cause) → ForSome (files file) (λ bytes. MOST_BYTES < length bytes) → IsRefusal (file_line file (codes "TooLong")) why → IsFileCause files rose file (NumbersIn file all_bytes) why
too_long files rose file (Read name) long refused = absurd refused
too_long files rose file (Refused line) long refused =
    let some = some_long (files file) MOST_BYTES long in
    (some.0, some.1, rw (lt-ltb MOST_BYTES (length some.0) some.2) (ap Err (sym refused)))
too_long files rose file NoMemory long refused = tt

-- and so is a certificate that is too long
pub too_long_certificate : (files : Files) (rose : List ℕ → Type 0) (file : List ℕ) (kind : Kind) (why : Cause) → ForSome (files file) (λ bytes. MOST_CERTIFICATE_BYTES < length bytes)
    → IsRefusal (file_line file (codes "TooLong")) why → IsFileCause files rose file (CertificateIn file kind) why
too_long_certificate files rose file kind (Read name) long refused = absurd refused
too_long_certificate files rose file kind (Refused line) long refused =
    let some = some_long (files file) MOST_CERTIFICATE_BYTES long in
    (some.0, some.1, inl (some.2, refused))
too_long_certificate files rose file kind NoMemory long refused = tt

-- the table of a command, from what a table's file gives
pub taken_value : (files : Files) (takes : Bool) (file : List ℕ) (table taken : Observations) → HoldsValue files file (NumbersIn file table_in) table → unless_levelled takes file table ≡ Ok taken
    → HoldsValue files file (TakenTable takes file) taken
taken_value files takes file table taken (bytes, content, read) is = (bytes, content, ap (and_unless_levelled takes file) read ∙ is)

pub untaken_cause : (files : Files) (rose : List ℕ → Type 0) (takes : Bool) (file : List ℕ) (why : Cause) → IsFileCause files rose file (NumbersIn file table_in) why → IsFileCause files rose file (TakenTable takes file) why
untaken_cause files rose takes file (Read name) why = why
untaken_cause files rose takes file (Refused line) (bytes, content, refused) = (bytes, content, ap (and_unless_levelled takes file) refused)
untaken_cause files rose takes file NoMemory why = tt

pub levels_cause : (files : Files) (rose : List ℕ → Type 0) (takes : Bool) (file : List ℕ) (table : Observations) (why : Cause) → HoldsValue files file (NumbersIn file table_in) table
    → IsReadingCause (Just (unless_levelled takes file table)) why → IsFileCause files rose file (TakenTable takes file) why
levels_cause files rose takes file table (Read name) held why = absurd why
levels_cause files rose takes file table (Refused line) (bytes, content, read) refused = (bytes, content, ap (and_unless_levelled takes file) read ∙ refused)
levels_cause files rose takes file table NoMemory held why = tt

-- a cause that is passed on is that of the file
pub passed_loaded : {A : Type 0} (files : Files) (rose : List ℕ → Type 0) (file : List ℕ) (reading : List ℕ → Reading A) (r : Result A Cause) (e : Cause) → IsErr r × IsErrAnd r (λ x. x ≡ e)
    → IsFileCause files rose file reading e → IsLoaded files rose file reading r
passed_loaded files rose file reading (Ok x) e (wrong, is) p = cc
passed_loaded files rose file reading (Err x) e h p = subst (IsFileCause files rose file reading) (sym h.1) p

pub table_loaded : (files : Files) (rose : List ℕ → Type 0) (takes : Bool) (file : List ℕ) (table : Observations) (result : Result Observations Cause) → HoldsValue files file (NumbersIn file table_in) table
    → IfOk result (λ taken. unless_levelled takes file table ≡ Ok taken) → IfErr result (IsReadingCause (Just (unless_levelled takes file table))) → IsLoaded files rose file (TakenTable takes file) result
table_loaded files rose takes file table (Ok taken) held is none = taken_value files takes file table taken held is
table_loaded files rose takes file table (Err why) held none refused = levels_cause files rose takes file table why held refused

-- what is taken of a table, by its levels
pub all_taken : (takes : Bool) (file : List ℕ) (table : Observations) → takes ≡ true → (unless_levelled takes file table ≡ Ok table) × MayHaveLevels takes table
all_taken true file table is = (refl, tt)
all_taken false file table untrue = cc

pub none_taken : (takes : Bool) (file : List ℕ) (table : Observations) → table.levels ≡ [] → (unless_levelled takes file table ≡ Ok table) × MayHaveLevels takes table
none_taken true file table none = (refl, tt)
none_taken false file table none = (rw none refl, none)

some_untaken : (file : List ℕ) (table : Observations) → (table.levels ≡ [] → ⊥) → unless_levelled false file table ≡ Err (file_line file (codes "OwnLevels"))
some_untaken file table some = go table.levels refl
  where
    go : (levels : List ℕ) → table.levels ≡ levels → unless_levelled false file table ≡ Err (file_line file (codes "OwnLevels"))
    go [] none = absurd (some none)
    go (level ∷ levels) are = ap (λ these. if refuses_levels false these then Err (file_line file (codes "OwnLevels")) else Ok table) are

pub levels_refused : (takes : Bool) (file : List ℕ) (table : Observations) (why : Cause) → takes ≡ false → (table.levels ≡ [] → ⊥) → IsRefusal (file_line file (codes "OwnLevels")) why
    → IsReadingCause (Just (unless_levelled takes file table)) why
levels_refused true file table why untrue some refused = cc
levels_refused false file table (Read name) is some refused = absurd refused
levels_refused false file table (Refused line) is some refused = some_untaken file table some ∙ ap Err (sym refused)
levels_refused false file table NoMemory is some refused = tt

-- the content of one file
one_of : (files : Files) (file bytes : List ℕ) → AreAll (files file) bytes → (k : ℕ) → k < length (file ∷ []) → AreAll (files (slice_index_or (file ∷ []) k [])) bytes
one_of files file bytes content zero within = content
one_of files file bytes content (suc k) within = let none : ⊥ = omega (arith, within) in absurd none

one_content : (files : Files) (line : Line) (file bytes : List ℕ) → files_of line ≡ file ∷ [] → AreAll (files file) bytes → AreContents files line (λ _. bytes)
one_content files line file bytes named content =
    subst (λ (names : List (List ℕ)). (k : ℕ) → k < length names → AreAll (files (slice_index_or names k [])) bytes) (sym named) (one_of files file bytes content)

-- a file at its place, whose count rose
read_at : (rose : List ℕ → Type 0) (asks : ℕ → Type 0) (files names : List (List ℕ)) (k : ℕ) (name : List ℕ) → files ≡ names → k < length names → name ≡ slice_index_or names k []
    → rose (slice_index_or names k []) → asks (suc k) → (k : ℕ) × (k < length files) × (name ≡ slice_index_or files k []) × rose name × asks (suc k)
read_at rose asks files names k name named within is up asked =
    subst (λ (these : List (List ℕ)). (k : ℕ) × (k < length these) × (name ≡ slice_index_or these k []) × rose name × asks (suc k)) (sym named) (k, within, is, subst rose (sym is) up, asked)

-- a line over one file has the input that the file gives, or the cause why the file gives none
pub one_input : {A : Type 0} (limits : ChoiceLimits) (files : Files) (line : Line) (file : List ℕ) (reading : List ℕ → Reading A) (over : A → Contents) (value : A)
    → files_of line ≡ file ∷ [] → ((bytes : ℕ → List ℕ) (r : Result Contents (List ℕ)) → AndThen (reading (bytes 0)) (λ v. Just (Ok (over v))) r → DenotesBy limits line bytes r)
    → HoldsValue files file reading value → HasContentsBy limits files line (over value)
one_input limits files line file reading over value named denoted (bytes, content, read) =
    let denotes = denoted (λ _. bytes) (Ok (over value)) (value, read, refl) in
    ((λ _. bytes), one_content files line file bytes named content, denotes, of_the_files limits line (λ _. bytes) (over value) denotes)

pub one_cause : {A : Type 0} (limits : ChoiceLimits) (files : Files) (rose : List ℕ → Type 0) (asks : Line → ℕ → Type 0) (line : Line) (file : List ℕ) (reading : List ℕ → Reading A) (over : A → Contents) (why : Cause)
    → files_of line ≡ file ∷ [] → ((bytes : ℕ → List ℕ) (r : Result Contents (List ℕ)) → AndThen (reading (bytes 0)) (λ v. Just (Ok (over v))) r → DenotesBy limits line bytes r)
    → asks line 1 → IsFileCause files rose file reading why → IsCause limits files rose asks line why
one_cause limits files rose asks line file reading over (Read name) named denoted once (same, up) = read_at rose (asks line) (files_of line) (file ∷ []) 0 name.now named (lit< tt) same up once
one_cause limits files rose asks line file reading over (Refused text) named denoted once (bytes, content, refused) =
    ((λ _. bytes), one_content files line file bytes named content, denoted (λ _. bytes) (Err text.items) (inl refused))
one_cause limits files rose asks line file reading over NoMemory named denoted once none = tt

-- the contents of two files
pub two_bytes : List ℕ → List ℕ → ℕ → List ℕ
two_bytes first second zero = first
two_bytes first second (suc k) = second

two_of : (files : Files) (f s first second : List ℕ) → AreAll (files f) first → AreAll (files s) second → (k : ℕ) → k < length (f ∷ s ∷ []) → AreAll (files (slice_index_or (f ∷ s ∷ []) k [])) (two_bytes first second k)
unfolding two_bytes
two_of files f s first second one two zero within = one
two_of files f s first second one two (suc zero) within = two
two_of files f s first second one two (suc (suc k)) within = let none : ⊥ = omega (arith, within) in absurd none

two_contents : (files : Files) (line : Line) (f s first second : List ℕ) → files_of line ≡ f ∷ s ∷ [] → AreAll (files f) first → AreAll (files s) second → AreContents files line (two_bytes first second)
two_contents files line f s first second named one two =
    subst (λ (names : List (List ℕ)). (k : ℕ) → k < length names → AreAll (files (slice_index_or names k [])) (two_bytes first second k)) (sym named) (two_of files f s first second one two)

-- some content of a file
some_content : (known : Option (List ℕ)) → ForSome known (λ t. unwrap_or known [] ≡ t)
some_content None t is = cc
some_content (Some bytes) t is = cc

-- a cause and a value of a file, for files of the same contents and counts that rose since earlier
pub moved_cause : {A : Type 0} (files later : Files) (rose since : List ℕ → Type 0) (file : List ℕ) (reading : List ℕ → Reading A) (why : Cause)
    → later file ≡ files file → (since file → rose file) → IsFileCause later since file reading why → IsFileCause files rose file reading why
moved_cause files later rose since file reading (Read name) same up (is, rises) = (is, up rises)
moved_cause files later rose since file reading (Refused line) same up (bytes, content, refused) = (bytes, (λ known is. content known (same ∙ is)), refused)
moved_cause files later rose since file reading NoMemory same up none = tt

pub moved_value : {A : Type 0} (files later : Files) (file : List ℕ) (reading : List ℕ → Reading A) (value : A)
    → later file ≡ files file → HoldsValue later file reading value → HoldsValue files file reading value
moved_value files later file reading value same (bytes, content, read) = (bytes, (λ known is. content known (same ∙ is)), read)

module _ {A B : Type 0} (limits : ChoiceLimits) (files : Files) (rose : List ℕ → Type 0) (asks : Line → ℕ → Type 0) (line : Line) (f s : List ℕ) (reading : List ℕ → Reading A) (after : A → List ℕ → Reading B) (last : A → B → Reading Contents)
    (named : files_of line ≡ f ∷ s ∷ [])
    (denoted : (bytes : ℕ → List ℕ) (r : Result Contents (List ℕ)) → AndThen (reading (bytes 0)) (λ a. AndThen (after a (bytes 1)) (last a)) r → DenotesBy limits line bytes r) where
  -- a line over two files has the input that they give
  pub two_input : (a : A) (b : B) (input : Contents) → HoldsValue files f reading a → HoldsValue files s (after a) b → last a b (Ok input) → HasContentsBy limits files line input
  unfolding two_bytes
  two_input a b input (first, one, read) (second, two, then_read) made =
      let denotes = denoted (two_bytes first second) (Ok input) (a, read, (b, then_read, made)) in
      (two_bytes first second, two_contents files line f s first second named one two, denotes, of_the_files limits line (two_bytes first second) input denotes)

  -- or the cause why the first gives none, whatever the second holds
  pub first_cause : (why : Cause) → asks line 1 → IsFileCause files rose f reading why → IsCause limits files rose asks line why
  unfolding two_bytes
  first_cause (Read name) once (same, up) = read_at rose (asks line) (files_of line) (f ∷ s ∷ []) 0 name.now named (lit< tt) same up once
  first_cause (Refused text) once (first, one, refused) =
      let second = unwrap_or (files s) [] in
      (two_bytes first second, two_contents files line f s first second named one (some_content (files s)), denoted (two_bytes first second) (Err text.items) (inl refused))
  first_cause NoMemory once none = tt

  -- or the cause why the second gives none
  pub second_cause : (a : A) (why : Cause) → asks line 2 → HoldsValue files f reading a → IsFileCause files rose s (after a) why → IsCause limits files rose asks line why
  unfolding two_bytes
  second_cause a (Read name) once held (same, up) = read_at rose (asks line) (files_of line) (f ∷ s ∷ []) 1 name.now named (lit< tt) same up once
  second_cause a (Refused text) once (first, one, read) (second, two, refused) =
      (two_bytes first second, two_contents files line f s first second named one two, denoted (two_bytes first second) (Err text.items) (inr (a, read, inl refused)))
  second_cause a NoMemory once held none = tt

  -- or the cause why nothing is made of what they give
  pub last_cause : (a : A) (b : B) (why : Cause) → HoldsValue files f reading a → HoldsValue files s (after a) b → IsReadingCause (last a b) why → IsCause limits files rose asks line why
  unfolding two_bytes
  last_cause a b (Read name) held also none = absurd none
  last_cause a b (Refused text) (first, one, read) (second, two, then_read) refused =
      (two_bytes first second, two_contents files line f s first second named one two, denoted (two_bytes first second) (Err text.items) (inr (a, read, inr (b, then_read, refused))))
  last_cause a b NoMemory held also none = tt

-- the contents of three files
pub three_bytes : List ℕ → List ℕ → List ℕ → ℕ → List ℕ
three_bytes first second third zero = first
three_bytes first second third (suc zero) = second
three_bytes first second third (suc (suc k)) = third

three_of : (files : Files) (f s t first second third : List ℕ) → AreAll (files f) first → AreAll (files s) second → AreAll (files t) third
    → (k : ℕ) → k < length (f ∷ s ∷ t ∷ []) → AreAll (files (slice_index_or (f ∷ s ∷ t ∷ []) k [])) (three_bytes first second third k)
unfolding three_bytes
three_of files f s t first second third one two three zero within = one
three_of files f s t first second third one two three (suc zero) within = two
three_of files f s t first second third one two three (suc (suc zero)) within = three
three_of files f s t first second third one two three (suc (suc (suc k))) within = let none : ⊥ = omega (arith, within) in absurd none

three_contents : (files : Files) (line : Line) (f s t first second third : List ℕ) → files_of line ≡ f ∷ s ∷ t ∷ [] → AreAll (files f) first → AreAll (files s) second → AreAll (files t) third
    → AreContents files line (three_bytes first second third)
three_contents files line f s t first second third named one two three =
    subst (λ (names : List (List ℕ)). (k : ℕ) → k < length names → AreAll (files (slice_index_or names k [])) (three_bytes first second third k)) (sym named) (three_of files f s t first second third one two three)

module _ {A B C : Type 0} (limits : ChoiceLimits) (files : Files) (rose : List ℕ → Type 0) (asks : Line → ℕ → Type 0) (line : Line) (f s t : List ℕ) (reading : List ℕ → Reading A) (after : A → List ℕ → Reading B) (third : List ℕ → Reading C)
    (last : A → B → C → Reading Contents) (named : files_of line ≡ f ∷ s ∷ t ∷ [])
    (denoted : (bytes : ℕ → List ℕ) (r : Result Contents (List ℕ)) → AndThen (reading (bytes 0)) (λ a. AndThen (after a (bytes 1)) (λ b. AndThen (third (bytes 2)) (last a b))) r → DenotesBy limits line bytes r) where
  -- a line over three files has the input that they give
  pub three_input : (a : A) (b : B) (c : C) (input : Contents) → HoldsValue files f reading a → HoldsValue files s (after a) b → HoldsValue files t third c → last a b c (Ok input) → HasContentsBy limits files line input
  unfolding three_bytes
  three_input a b c input (x, one, read) (y, two, then_read) (z, three, last_read) made =
      let denotes = denoted (three_bytes x y z) (Ok input) (a, read, (b, then_read, (c, last_read, made))) in
      (three_bytes x y z, three_contents files line f s t x y z named one two three, denotes, of_the_files limits line (three_bytes x y z) input denotes)

  -- or the cause why the first gives none, and so the others
  pub three_first : (why : Cause) → asks line 1 → IsFileCause files rose f reading why → IsCause limits files rose asks line why
  unfolding three_bytes
  three_first (Read name) once (same, up) = read_at rose (asks line) (files_of line) (f ∷ s ∷ t ∷ []) 0 name.now named (lit< tt) same up once
  three_first (Refused text) once (x, one, refused) =
      let y = unwrap_or (files s) [] in
      let z = unwrap_or (files t) [] in
      (three_bytes x y z, three_contents files line f s t x y z named one (some_content (files s)) (some_content (files t)), denoted (three_bytes x y z) (Err text.items) (inl refused))
  three_first NoMemory once none = tt

  pub three_second : (a : A) (why : Cause) → asks line 2 → HoldsValue files f reading a → IsFileCause files rose s (after a) why → IsCause limits files rose asks line why
  unfolding three_bytes
  three_second a (Read name) once held (same, up) = read_at rose (asks line) (files_of line) (f ∷ s ∷ t ∷ []) 1 name.now named (lit< tt) same up once
  three_second a (Refused text) once (x, one, read) (y, two, refused) =
      let z = unwrap_or (files t) [] in
      (three_bytes x y z, three_contents files line f s t x y z named one two (some_content (files t)), denoted (three_bytes x y z) (Err text.items) (inr (a, read, inl refused)))
  three_second a NoMemory once held none = tt

  pub three_third : (a : A) (b : B) (why : Cause) → asks line 3 → HoldsValue files f reading a → HoldsValue files s (after a) b → IsFileCause files rose t third why → IsCause limits files rose asks line why
  unfolding three_bytes
  three_third a b (Read name) once held also (same, up) = read_at rose (asks line) (files_of line) (f ∷ s ∷ t ∷ []) 2 name.now named (lit< tt) same up once
  three_third a b (Refused text) once (x, one, read) (y, two, then_read) (z, three, refused) =
      (three_bytes x y z, three_contents files line f s t x y z named one two three, denoted (three_bytes x y z) (Err text.items) (inr (a, read, inr (b, then_read, inl refused))))
  three_third a b NoMemory once held also none = tt

  pub three_last : (a : A) (b : B) (c : C) (why : Cause) → HoldsValue files f reading a → HoldsValue files s (after a) b → HoldsValue files t third c → IsReadingCause (last a b c) why → IsCause limits files rose asks line why
  unfolding three_bytes
  three_last a b c (Read name) held also too none = absurd none
  three_last a b c (Refused text) (x, one, read) (y, two, then_read) (z, three, last_read) refused =
      (three_bytes x y z, three_contents files line f s t x y z named one two three, denoted (three_bytes x y z) (Err text.items) (inr (a, read, inr (b, then_read, inr (c, last_read, refused)))))
  three_last a b c NoMemory held also too none = tt

-- a cause why nothing is made is one why no input is made of it
pub then_caused : {A : Type 0} (made : Reading A) (over : A → Contents) (why : Cause) → IsReadingCause made why → IsReadingCause (AndThen made (λ a. Just (Ok (over a)))) why
then_caused made over (Read name) none = none
then_caused made over (Refused line) refused = inl refused
then_caused made over NoMemory none = tt

-- a line without files has its input
pub no_files : (limits : ChoiceLimits) (files : Files) (line : Line) (input : Contents) → files_of line ≡ [] → ((bytes : ℕ → List ℕ) → DenotesBy limits line bytes (Ok input)) → HasContentsBy limits files line input
no_files limits files line input none denoted = ((λ _. []), (λ k within. let empty : k < length {A = List ℕ} [] = rw none at within in let no : ⊥ = omega (arith, empty) in absurd no), denoted (λ _. []), of_the_files limits line (λ _. []) input (denoted (λ _. [])))
