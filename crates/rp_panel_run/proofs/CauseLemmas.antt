-- An answer for a long file and a file of new prices, or the cause why there is none.
use Rattle.std.proofs.Common.{◌≡◌, ◌≢◌, ◌<◌, ◌≤◌, ◌+◌, false, ℕ, zero, suc, List, [], ◌∷◌, Option, None, Some, Result, Ok, Err, IfErr, IfOk, inl, inr, length, refl, replicate, sym, subst, ap, ◌∙◌, arith}
use Rattle.std.proofs.lemmas.List.{length-replicate}
use Rattle.std.specs.Prelude.{codes, get_or, unwrap_or}
use Rattle.rp_bound_rows.specs.declared.asked.BoundsAsked.{BoundsAsked}
use Rattle.rp_front.specs.Contents.{AnswersWith, file_at, first_of}
use Rattle.rp_front.specs.Endings.{Rose}
use Rattle.rp_front.specs.InnerCauses.{IsCause}
use Rattle.rp_front.specs.declared.answer.Answer.{Answer}
use Rattle.rp_front.specs.declared.answer.Cause.{Cause}
use Rattle.rp_front.specs.declared.answer.Cause.TheVariants as cause
use Rattle.rp_front.specs.declared.status.Status.{Status}
use Rattle.rp_front.specs.declared.status.Status.TheVariants.{Done}
use Rattle.rp_limits.specs.declared.long.TheConstants.{BYTES}
use Rattle.rp_limits.specs.declared.run.TheConstants.{MOST_BYTES}
use Rattle.rp_long.specs.Panels.{Panel, denoted_panel, panel_in}
use Rattle.rp_long.specs.declared.fault.LongFault.{LongFault}
use Rattle.rp_long.specs.declared.fault.LongFault.TheVariants as long_fault
use Rattle.rp_outside.specs.Faults.{EachStays, HasRisen}
use Rattle.rp_outside.specs.Known.{AreAll, AreMoreThan}
use Rattle.rp_sheet.specs.declared.fault.TableFault.TheVariants as table_fault
use Rattle.rp_panel_run.specs.Endings.{Files, HasFault, IsPanelFile}
use Rattle.rp_panel_run.specs.Front.{panels}
use Rattle.rp_panel_run.specs.InnerCauses.{IsAnswerBeside, IsFaultCause, IsFaultOfRecords, IsLoadCause, IsNewCause, IsTextBeside, IsToldAs, is_memory}
use Rattle.rp_panel_run.specs.Questions.{Asking, id_name, new_files}
use Rattle.rp_panel_run.specs.Told.{file_line, long_fault_text}
use Rattle.rp_panel_run.specs.Laws.{begins_unrefused}
use Rattle.rp_panel_run.proofs.FrontLemmas.{answers_front, refuses_front}

pub not_memory : (f : LongFault) → is_memory f ≡ false → f ≢ long_fault.Table table_fault.NoMemory
not_memory f other same = cc (sym (ap is_memory same) ∙ other)

-- some content of a file, and some that is longer than a limit where no shorter one is known
pub some_content : (known : Option (List ℕ)) → AreAll known (unwrap_or known [])
some_content None = λ found is. cc is
some_content (Some bytes) = λ found is. cc is

some_long : (limit : ℕ) (known : Option (List ℕ)) → AreMoreThan limit known → (bytes : List ℕ) × AreAll known bytes × (limit < length bytes)
some_long limit None more = (replicate (limit + 1) 0, (λ found is. cc is), omega (arith, length-replicate {A = ℕ} (limit + 1) 0))
some_long limit (Some bytes) more = (bytes, (λ found is. cc is), more bytes refl)

module _ (a : Asking) where
  -- by records, under other names of what is asked
  same_denoted : (records : List (List (List ℕ))) (id : List ℕ) (kept : List (List ℕ)) → id ≡ id_name a → kept ≡ a.kept
      → denoted_panel (id_name a) a.kept records ≡ denoted_panel id kept records
  same_denoted records id kept of_id of_kept =
      ap (λ (i : List ℕ). denoted_panel i a.kept records) (sym of_id) ∙ ap (λ (k : List (List ℕ)). denoted_panel id k records) (sym of_kept)

  pub opened : (records : List (List (List ℕ))) (id : List ℕ) (kept : List (List ℕ)) (panel : Panel) → id ≡ id_name a → kept ≡ a.kept
      → denoted_panel id kept records ≡ Ok panel → denoted_panel (id_name a) a.kept records ≡ Ok panel
  opened records id kept panel of_id of_kept denoted = same_denoted records id kept of_id of_kept ∙ denoted

  pub fault_of_records : (records : List (List (List ℕ))) (id : List ℕ) (kept : List (List ℕ)) (f : LongFault) (file : List ℕ) (why : Cause) → id ≡ id_name a → kept ≡ a.kept → file ≡ a.file
      → denoted_panel id kept records ≡ Err f → IsToldAs file (long_fault_text f) why → IsFaultOfRecords a records why
  fault_of_records records id kept f file (cause.Read name) of_id of_kept of_file denoted told = absurd told
  fault_of_records records id kept f file (cause.Refused line) of_id of_kept of_file denoted told =
      record { fault = f; denoted = same_denoted records id kept of_id of_kept ∙ denoted; tells = told ∙ ap (λ (n : List ℕ). file_line n (long_fault_text f)) of_file }
  fault_of_records records id kept f file cause.NoMemory of_id of_kept of_file denoted told = tt

  -- the file of new prices was not read, or it is the long file that was not
  pub new_cause : (files : Files) (before after : List ℕ → ℕ) (name : List ℕ) (why : Cause) → name ≡ a.new_prices → a.bounds ≢ None
      → IsLoadCause name MOST_BYTES (files name) (HasRisen (before name) (after name)) why
      → IsNewCause a (files a.new_prices) (HasRisen (before a.new_prices) (after a.new_prices)) why
  new_cause files before after name (cause.Read file) same some load =
      (some, subst (λ (n : List ℕ). HasRisen (before n) (after n)) same load.0, load.1 ∙ same)
  new_cause files before after name (cause.Refused line) same some load =
      let own = subst (λ (n : List ℕ). AreMoreThan MOST_BYTES (files n) × (line.items ≡ file_line n (codes "TooLong"))) same load in
      (some, own.0, own.1)
  new_cause files before after name cause.NoMemory same some load = tt

  pub new_caused : {A : Type 0} (files : Files) (before after : List ℕ → ℕ) (name : List ℕ) (result : Result A Cause) → name ≡ a.new_prices → a.bounds ≢ None
      → IfErr result (IsLoadCause name MOST_BYTES (files name) (HasRisen (before name) (after name)))
      → IfErr result (IsNewCause a (files a.new_prices) (HasRisen (before a.new_prices) (after a.new_prices)))
  new_caused files before after name (Ok value) same some load = load
  new_caused files before after name (Err why) same some load = new_cause files before after name why same some load

  pub file_cause : (files : Files) (before after : List ℕ → ℕ) (asks : ℕ → Type 0) (name : List ℕ) (why : Cause) → name ≡ a.file → asks 1
      → IsLoadCause name BYTES (files name) (HasRisen (before name) (after name)) why → IsCause panels files (Rose before after) asks a why
  file_cause files before after asks name (cause.Read file) same once load = (
    0,
    record {
      within = omega arith;
      risen = subst (λ (n : List ℕ). HasRisen (before n) (after n)) same load.0;
      after_those = ((λ k. []), (λ k within. absurd (omega (arith, within))), λ line refused. begins_unrefused a (first_of (λ k. []) 0) line refl refused);
      none_after = once;
    },
    load.1 ∙ same,
  )
  file_cause files before after asks name (cause.Refused line) same once load =
      let own = subst (λ (n : List ℕ). AreMoreThan BYTES (files n) × (line.items ≡ file_line n (codes "TooLong"))) same load in
      let long = some_long BYTES (files a.file) own.0 in
      refuses_front a files line.items (
        record { long = long.0; new = unwrap_or (files a.new_prices) [] },
        record { long = long.1; new = λ some. some_content (files a.new_prices) },
        inl (inl (record { many = long.2; tells = own.1 })),
      )
  file_cause files before after asks name cause.NoMemory same once load = tt

  -- by bytes of the long file, of which these are the records
  module _ (long : List ℕ) (records : List (List (List ℕ))) (few : length long ≤ BYTES)
      (read : (id : List ℕ) (kept : List (List ℕ)) → denoted_panel id kept records ≡ panel_in id kept long) where
    pub accepted : (panel : Panel) → denoted_panel (id_name a) a.kept records ≡ Ok panel → IsPanelFile a long
    accepted panel denoted = record { few = few; panel = panel; denoted = sym (read (id_name a) a.kept) ∙ denoted }

    pub not_faulty : (panel : Panel) (line : List ℕ) → denoted_panel (id_name a) a.kept records ≡ Ok panel → HasFault a long line → ⊥
    not_faulty panel line denoted fault = let is = sym (read (id_name a) a.kept) ∙ denoted in let refused = fault.denoted in cc

    pub text_of_bytes : (known : Option (List ℕ)) (panel : Panel) (result : Result Answer Cause) → denoted_panel (id_name a) a.kept records ≡ Ok panel
        → IfOk result (λ answer. (answer.status ≡ Done) × IsAnswerBeside a known panel answer.text.items answer.told.items)
        → IfOk result (λ answer. (answer.status ≡ Done) × IsTextBeside a known long answer.text.items answer.told.items)
    text_of_bytes known panel (Ok answer) denoted (done, (new, held, is)) =
        (done, (new, held, record { few = few; panel = panel; denoted = sym (read (id_name a) a.kept) ∙ denoted; answers = is }))
    text_of_bytes known panel (Err why) denoted is = is

    new_of_bytes : (known : Option (List ℕ)) (rose : Type 0) (panel : Panel) (why : Cause) → denoted_panel (id_name a) a.kept records ≡ Ok panel
        → IsNewCause a known rose why → IsFaultCause a known rose long why
    new_of_bytes known rose panel (cause.Read file) denoted is = (accepted panel denoted, is)
    new_of_bytes known rose panel (cause.Refused line) denoted is = inr (accepted panel denoted, is)
    new_of_bytes known rose panel cause.NoMemory denoted is = tt

    pub cause_of_new : (known : Option (List ℕ)) (rose : Type 0) (panel : Panel) (result : Result Answer Cause) → denoted_panel (id_name a) a.kept records ≡ Ok panel
        → IfErr result (IsNewCause a known rose) → IfErr result (IsFaultCause a known rose long)
    cause_of_new known rose panel (Ok answer) denoted is = is
    cause_of_new known rose panel (Err why) denoted is = new_of_bytes known rose panel why denoted is

    pub cause_of_bytes : (known : Option (List ℕ)) (rose : Type 0) (why : Cause) → IsFaultOfRecords a records why → IsFaultCause a known rose long why
    cause_of_bytes known rose (cause.Read file) is = absurd is
    cause_of_bytes known rose (cause.Refused line) is =
        inl (record { few = few; fault = is.fault; denoted = sym (read (id_name a) a.kept) ∙ is.denoted; tells = is.tells })
    cause_of_bytes known rose cause.NoMemory is = tt

  -- by files, of which the long one may hold these bytes
  module _ (files between : Files) (before after amid : List ℕ → ℕ) (name long whole : List ℕ) (of_file : name ≡ a.file) (of_bytes : long ≡ whole) (all : AreAll (files name) whole)
      (stay : EachStays files between) (counted : EachStays before amid) where
    pub long_held : AreAll (files a.file) long
    long_held = λ found is. of_bytes ∙ all found (ap files of_file ∙ is)

    pub text_of_files : (result : Result Answer Cause) → IfOk result (λ answer. (answer.status ≡ Done) × IsTextBeside a (between a.new_prices) long answer.text.items answer.told.items)
        → IfOk result (λ answer. AnswersWith panels files a answer.status answer.text.items answer.told.items)
    text_of_files (Ok answer) (done, (new, held, text)) =
        subst (λ (s : Status). AnswersWith panels files a s answer.text.items answer.told.items) (sym done)
        (answers_front a files answer.text.items answer.told.items (
          record { long = long; new = new },
          record { long = long_held; new = λ some. subst (λ (known : Option (List ℕ)). AreAll known new) (stay a.new_prices) (held some) },
          text,
        ))
    text_of_files (Err why) text = text

    first_held : (k : ℕ) → k < 1 → AreAll (files (file_at panels a k)) long
    first_held zero within = long_held
    first_held (suc k) within = absurd (omega (arith, within))

    second_at : (bounds : Option BoundsAsked) → bounds ≢ None → (1 < length (a.file ∷ new_files bounds a.new_prices)) × (get_or (a.file ∷ new_files bounds a.new_prices) 1 [] ≡ a.new_prices)
    second_at None some = absurd (some refl)
    second_at (Some asked) some = (omega arith, refl)

    panel_unrefused : IsPanelFile a long → (line : List ℕ) → panels.refuses a (first_of (λ k. long) 1) line → ⊥
    panel_unrefused panel line (inl (inl many)) = omega (arith, panel.few, many.many)
    panel_unrefused panel line (inl (inr fault)) = let is = panel.denoted in let refused = fault.denoted in cc
    panel_unrefused panel line (inr new) = new

    fault_of_files : (asks : ℕ → Type 0) (why : Cause) → asks 2 → IsFaultCause a (files a.new_prices) (HasRisen (before a.new_prices) (after a.new_prices)) long why
        → IsCause panels files (Rose before after) asks a why
    fault_of_files asks (cause.Read file) once (panel, (some, rose, its)) =
        let at = second_at a.bounds some in (
          1,
          record {
            within = at.0;
            risen = subst (λ (n : List ℕ). Rose before after n) (sym at.1) rose;
            after_those = ((λ k. long), first_held, panel_unrefused panel);
            none_after = once;
          },
          its ∙ sym at.1,
        )
    fault_of_files asks (cause.Refused line) once (inl fault) = refuses_front a files line.items (
      record { long = long; new = unwrap_or (files a.new_prices) [] },
      record { long = long_held; new = λ some. some_content (files a.new_prices) },
      inl (inr fault),
    )
    fault_of_files asks (cause.Refused line) once (inr (panel, (some, many, tells))) =
        let new = some_long MOST_BYTES (files a.new_prices) many in
        refuses_front a files line.items (
          record { long = long; new = new.0 },
          record { long = long_held; new = λ asks_it. new.1 },
          inr (record { asked = some; accepted = panel; many = new.2; tells = tells }),
        )
    fault_of_files asks cause.NoMemory once fault = tt

    pub cause_of_files : (asks : ℕ → Type 0) (result : Result Answer Cause) → asks 2 → IfErr result (IsFaultCause a (between a.new_prices) (HasRisen (amid a.new_prices) (after a.new_prices)) long)
        → IfErr result (IsCause panels files (Rose before after) asks a)
    cause_of_files asks (Ok answer) once is = is
    cause_of_files asks (Err why) once is =
        fault_of_files asks why once (subst (λ (count : ℕ). IsFaultCause a (files a.new_prices) (HasRisen count (after a.new_prices)) long why) (counted a.new_prices)
        (subst (λ (new : Option (List ℕ)). IsFaultCause a new (HasRisen (amid a.new_prices) (after a.new_prices)) long why) (stay a.new_prices) is))
