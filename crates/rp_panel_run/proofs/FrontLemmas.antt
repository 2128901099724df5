-- The laws of the program of panels, and what `run_program` says of it, in its own words.
use Rattle.std.proofs.Common.{Bool, ◌≡◌, ◌≢◌, ◌<◌, ◌≤◌, ◌+◌, ◌⊎◌, ℕ, zero, suc, List, [], ◌∷◌, Option, None, Some, Result, Ok, Err, inl, inr, length, sum, take, refl, sym, subst, ap, ◌∙◌, arith, append_assoc}
use Rattle.std.specs.Prelude.{codes, get_or}
use Rattle.std.proofs.lemmas.Bool.{cases_lt}
use Rattle.rp_bound_rows.specs.declared.asked.BoundsAsked.{BoundsAsked}
use Rattle.rp_front.specs.AskedInTurn as first
use Rattle.rp_front.specs.AskedInTurn.{AreOfFirst}
use Rattle.rp_front.specs.Calls as front
use Rattle.rp_front.specs.Contents as over
use Rattle.rp_front.specs.Contents.{AreRefused, file_at}
use Rattle.rp_front.specs.Endings as ending
use Rattle.rp_front.specs.Endings.{IsEnd, IsSilent}
use Rattle.rp_front.specs.Gains.{GainsBoth}
use Rattle.rp_front.specs.Lines as lines
use Rattle.rp_front.specs.Lines.{hinted}
use Rattle.rp_guide.specs.Codes.{code_of_line}
use Rattle.rp_guide.specs.Gains.{Gains, SinkChange}
use Rattle.rp_front.specs.Turns as turn
use Rattle.rp_front.specs.declared.status.Status.{Status}
use Rattle.rp_front.specs.declared.status.Status.TheVariants as status
use Rattle.rp_limits.specs.declared.long.TheConstants.{BYTES}
use Rattle.rp_long.specs.Panels.{Panel, panel_in}
use Rattle.rp_long.specs.declared.fault.LongFault.{LongFault}
use Rattle.rp_outside.specs.Asked.{Reads}
use Rattle.rp_outside.specs.Faults.{HasRisen}
use Rattle.rp_outside.specs.Known.{AreAll, Grows, GrowsByPrefix, Stays}
use Rattle.rp_panel_run.specs.Endings.{AnswersWith, AreContents, Contents, Files, IsAccepted, IsLongRefusal, IsPanelFile, IsRefused, IsUnread, RefusesWith}
use Rattle.rp_panel_run.specs.Front.{IsKnownLongRefusal, front_status, held_of, new_limits, panels}
use Rattle.rp_panel_run.specs.Questions.{Asking, files_of, id_name, new_files}
use Rattle.rp_panel_run.specs.Told.{file_line, long_fault_text, memory_line, unread_line, usage_line, write_line}
use Rattle.rp_panel_run.specs.Turns.{AreAskedInTurn, AreInOrder, AreReadInTurn, AsksByName, AsksInTurn, IsKnownRefused, calls_of_long, calls_of_new}
use Rattle.rp_panel_run.specs.declared.status.Status.{Status as Own}
use Rattle.rp_panel_run.specs.declared.status.Status.TheVariants as mine

-- ---- statuses and reads

-- the status of a call from that of the front, of which one never comes
abbrev own_status : Status → Own
own_status status.Done = mine.Done
own_status status.Rejected = mine.Done
own_status status.Usage = mine.Usage
own_status status.ReadFault = mine.ReadFault
own_status status.Refused = mine.Refused
own_status status.WriteFault = mine.WriteFault
own_status status.NoMemory = mine.NoMemory

back_front : (r : Own) → own_status (front_status r) ≡ r
back_front mine.Done = refl
back_front mine.Usage = refl
back_front mine.ReadFault = refl
back_front mine.Refused = refl
back_front mine.WriteFault = refl
back_front mine.NoMemory = refl

in_order : (n : ℕ) (files : List (List ℕ)) (reads : Reads) → AreOfFirst n files reads → AreInOrder files reads
in_order zero [] reads none = none
in_order zero (file ∷ files) reads none = inl none
in_order (suc n) [] reads none = none
in_order (suc n) (file ∷ files) reads (inl none) = inl none
in_order (suc n) (file ∷ files) reads (inr (own_reads, rest, is, once, more)) = inr (own_reads, rest, is, once, in_order n files rest more)

-- ---- contents

abbrev bytes_of : Contents → ℕ → List ℕ
bytes_of held zero = held.long
bytes_of held (suc k) = held.new

module _ (a : Asking) (files : Files) where
  second_held : (bounds : Option BoundsAsked) (bytes : ℕ → List ℕ) → bounds ≢ None
      → ((k : ℕ) → k < length (a.file ∷ new_files bounds a.new_prices) → AreAll (files (get_or (a.file ∷ new_files bounds a.new_prices) k [])) (bytes k))
      → AreAll (files a.new_prices) (bytes 1)
  second_held None bytes some held = absurd (some refl)
  second_held (Some asked) bytes some held = held 1 (omega arith)

  pub to_held : (bytes : ℕ → List ℕ) → over.AreContents panels files a bytes → AreContents a files (held_of bytes)
  to_held bytes held = record { long = held 0 (omega arith); new = λ some. second_held a.bounds bytes some held }

  each_held : (bounds : Option BoundsAsked) (held : Contents) → AreAll (files a.file) held.long → (bounds ≢ None → AreAll (files a.new_prices) held.new)
      → (k : ℕ) → k < length (a.file ∷ new_files bounds a.new_prices) → AreAll (files (get_or (a.file ∷ new_files bounds a.new_prices) k [])) (bytes_of held k)
  each_held bounds held long new zero within = long
  each_held None held long new (suc k) within = absurd (omega (arith, within))
  each_held (Some asked) held long new (suc zero) within = new (λ none. cc none)
  each_held (Some asked) held long new (suc (suc k)) within = absurd (omega (arith, within))

  pub from_held : (held : Contents) → AreContents a files held → over.AreContents panels files a (bytes_of held)
  from_held held are = each_held a.bounds held are.long are.new

  -- an answer and a refusal, in the words of this crate and in those of the front
  pub answers_own : (s : Status) (text told : List ℕ) → over.AnswersWith panels files a s text told → AnswersWith a files text told
  answers_own s text told (bytes, held, (done, is)) = (held_of bytes, to_held bytes held, is)

  answers_done : (s : Status) (text told : List ℕ) → over.AnswersWith panels files a s text told → s ≡ status.Done
  answers_done s text told (bytes, held, (done, is)) = done

  pub refuses_own : (line : List ℕ) → over.RefusesWith panels files a line → RefusesWith a files line
  refuses_own line (bytes, held, refused) = (held_of bytes, to_held bytes held, refused)

  pub answers_front : (text told : List ℕ) → AnswersWith a files text told → over.AnswersWith panels files a status.Done text told
  answers_front text told (held, are, is) = (bytes_of held, from_held held are, (refl, is))

  pub refuses_front : (line : List ℕ) → RefusesWith a files line → over.RefusesWith panels files a line
  refuses_front line (held, are, refused) = (bytes_of held, from_held held are, refused)

  pub accepted_front : IsAccepted a files → over.IsAccepted panels files a
  accepted_front accepted bytes held = accepted (held_of bytes) (to_held bytes held)

  pub refused_front : IsRefused a files → over.IsRefused panels files a
  refused_front refused bytes held = refused (held_of bytes) (to_held bytes held)

  -- a file that could not be read
  tells_read : (file line : List ℕ) → line ≡ lines.read_line (codes "rp-panel") file → line ≡ unread_line file
  tells_read file line is = is ∙ simp append_assoc

  -- bytes of the long file that nothing refuses are accepted
  accepted_of : (bytes : List ℕ) → ((line : List ℕ) → IsLongRefusal a bytes line → ⊥) → IsPanelFile a bytes
  accepted_of bytes none = elim (cases_lt BYTES (length bytes)) [
    | inl many ↦ absurd (none (file_line a.file (codes "TooLong")) (inl (record { many = many; tells = refl })))
    | inr few ↦ read few (panel_in (id_name a) a.kept bytes) refl
  ]
    where
      read : length bytes ≤ BYTES → (found : Result Panel LongFault) → panel_in (id_name a) a.kept bytes ≡ found → IsPanelFile a bytes
      read few (Ok panel) is = record { few = few; panel = panel; denoted = is }
      read few (Err fault) is = absurd (none (file_line a.file (long_fault_text fault)) (inr (record { few = few; fault = fault; denoted = is; tells = refl })))

  second_unread : (bounds : Option BoundsAsked) (k : ℕ) → suc k < length (a.file ∷ new_files bounds a.new_prices)
      → (k ≡ 0) × (bounds ≢ None) × (get_or (a.file ∷ new_files bounds a.new_prices) 1 [] ≡ a.new_prices)
  second_unread None k within = absurd (omega (arith, within))
  second_unread (Some asked) k within = (omega (arith, within), (λ none. cc none), refl)

  pub unread_own : (before after : List ℕ → ℕ) (asks : ℕ → Type 0) (k : ℕ) (line : List ℕ) → ending.IsUnread panels files (ending.Rose before after) asks a k
      → line ≡ lines.read_line (codes "rp-panel") (file_at panels a k) → IsUnread a files before after line
  unread_own before after asks zero line gone tells = inl (record { risen = gone.risen; tells = tells_read a.file line tells })
  unread_own before after asks (suc zero) line gone tells =
      let at = second_unread a.bounds 0 gone.within in
      let those = gone.after_those in
      inr (record {
        asked = at.1;
        long = those.0 0;
        content = those.1 0 (omega arith);
        accepted = accepted_of (those.0 0) (λ refusal refused. those.2 refusal (inl refused));
        unread = record {
          risen = subst (λ (n : List ℕ). ending.Rose before after n) at.2 gone.risen;
          tells = tells_read a.new_prices line (subst (λ (n : List ℕ). line ≡ lines.read_line (codes "rp-panel") n) at.2 tells);
        };
      })
  unread_own before after asks (suc (suc k)) line gone tells =
      let none = (second_unread a.bounds (suc k) gone.within).0 in absurd (omega (arith, none))

  -- ---- turns

  one_refused : IsKnownRefused a files → AreRefused panels files a 1
  one_refused (bytes, known, (line, refused)) = (line, inl (subst (λ (k : Option (List ℕ)). IsKnownLongRefusal a k line) (sym known) refused))

  pub turns_own : (before after : ℕ) → turn.AreReadInTurn panels files before after a → AreReadInTurn files before after a
  turns_own before after own = record { each_once = each a.bounds own.each_once; none_after_refused = λ refused. alone (own.none_after_refused 1 (one_refused refused)) }
    where
      alone : turn.AsksForFirst panels files before after a 1 → after ≤ before + calls_of_long a files
      alone most = omega (arith, most)

      each : (bounds : Option BoundsAsked) → after ≤ before + sum (take (length (a.file ∷ new_files bounds a.new_prices)) (turn.calls_of_each files (BYTES ∷ new_limits bounds) (a.file ∷ new_files bounds a.new_prices)))
          → after ≤ before + calls_of_long a files + calls_of_new bounds (files a.new_prices)
      each None most = omega (arith, most)
      each (Some asked) most = omega (arith, most)

  pub names_own : (before after : Option Reads) → first.AreAskedInTurn panels files before after a → AreAskedInTurn files before after a
  names_own before after own = record {
    each_once = λ reads is. (let grows = own.each_once reads is in (grows.0, grows.1, in_order (length (files_of a)) (files_of a) grows.0 grows.2));
    none_after_refused = λ refused reads is. (let grows = own.none_after_refused 1 (one_refused refused) reads is in (grows.0, grows.1, alone grows.0 grows.2));
  }
    where
      alone : (reads : Reads) → AreOfFirst 1 (files_of a) reads → AreInOrder (a.file ∷ []) reads
      alone reads (inl none) = inl none
      alone reads (inr (own_reads, rest, is, once, none)) = inr (own_reads, rest, is, once, none)

-- ---- by what words ask

module _ (hints : Bool) (asked : Option Asking) (files : Files) where
  pub turns_asked : (before after : ℕ) → front.AsksInTurn panels files before after asked → AsksInTurn files before after asked
  turns_asked before after own = record { in_turn = λ a is. turns_own a files before after (own.in_turn a is); none_asked = own.none_asked }

  pub names_asked : (before after : Option Reads) → front.AsksByName panels files before after asked → AsksByName files before after asked
  names_asked before after own = record { by_name = λ a is. names_own a files before after (own.by_name a is); no_name = own.no_name }

  -- with this status of the front, which is that of the call
  module _ (rose : List ℕ → Type 0) (asks : Asking → ℕ → Type 0) (out err : SinkChange) (r : Own) (s : Status) (same : front_status r ≡ s)
      (words : front.AnswersUsage asked s) (written : front.IsWritten hints panels files asked s out err) (why : front.TellsWhy hints panels files rose asks asked s err) where
    told_as : (q : Status) → s ≡ q → front.TellsWhy hints panels files rose asks asked q err
    told_as q is = subst (λ (t : Status). front.TellsWhy hints panels files rose asks asked t err) is why

    written_as : (q : Status) → s ≡ q → front.IsWritten hints panels files asked q out err
    written_as q is = subst (λ (t : Status). front.IsWritten hints panels files asked t out err) is written

    pub usage_own : r ≡ mine.Usage → (asked ≡ None) × Gains err.old err.new err.before err.after (hinted hints (codes "Usage") usage_line)
    usage_own used =
        let is : s ≡ status.Usage = sym same ∙ ap front_status used in
        let told = told_as status.Usage is tt in
        (words.usage is, subst (λ (l : List ℕ). Gains err.old err.new err.before err.after (hinted hints (codes "Usage") l)) told.1 told.2)

    pub asked_own : r ≢ mine.Usage → r ≢ mine.NoMemory → (a : Asking) × (asked ≡ Some a)
    asked_own no_usage no_memory = some asked refl
      where
        front_back : (q : Own) → front_status r ≡ front_status q → r ≡ q
        front_back q is = sym (back_front r) ∙ ap own_status is ∙ back_front q

        some : (found : Option Asking) → asked ≡ found → (a : Asking) × (asked ≡ Some a)
        some (Some a) is = (a, is)
        some None is = elim (words.no_line is) [
          | inl used ↦ absurd (no_usage (front_back mine.Usage (same ∙ used)))
          | inr memory ↦ absurd (no_memory (front_back mine.NoMemory (same ∙ memory)))
        ]

    pub written_own : r ≡ mine.Done → (a : Asking) × (text : List ℕ) × (told : List ℕ) × (asked ≡ Some a) × AnswersWith a files text told
        × Grows out.old out.new text × Gains err.old err.new err.before err.after told
    written_own done =
        let is : s ≡ status.Done = sym same ∙ ap front_status done in
        let went = (written_as status.Done is).answered tt in
        let what = went.2 in
        (what.0, went.0, went.1, what.1, answers_own what.0 files status.Done went.0 went.1 what.2, went.3, went.4)

    pub cut_own : r ≡ mine.WriteFault → (a : Asking) × (text : List ℕ) × (told : List ℕ) × (asked ≡ Some a) × AnswersWith a files text told
        × GrowsByPrefix out.old out.new text × HasRisen out.before out.after × GainsBoth err.old err.new err.before err.after told (hinted hints (codes "WriteFault") write_line)
    cut_own cut =
        let is : s ≡ status.WriteFault = sym same ∙ ap front_status cut in
        let went = written.cut_short is in
        let what = went.3 in (
          what.0,
          went.1,
          went.2,
          what.1,
          answers_own what.0 files went.0 went.1 went.2 what.2,
          went.4,
          written.write_counted is,
          went.5,
        )

    pub silent_own : r ≢ mine.Done → r ≢ mine.WriteFault → Stays out.old out.new
    silent_own no_end no_cut = written.silent (subst IsSilent same (silent r no_end no_cut))
      where
        silent : (q : Own) → q ≢ mine.Done → q ≢ mine.WriteFault → IsSilent (front_status q)
        silent mine.Done undone uncut = absurd (undone refl)
        silent mine.Usage undone uncut = tt
        silent mine.ReadFault undone uncut = tt
        silent mine.Refused undone uncut = tt
        silent mine.WriteFault undone uncut = absurd (uncut refl)
        silent mine.NoMemory undone uncut = tt

    pub refused_own : r ≡ mine.Refused → (a : Asking) × (line : List ℕ) × (asked ≡ Some a) × RefusesWith a files line × Gains err.old err.new err.before err.after (hinted hints (code_of_line line) line)
    refused_own refused =
        let told = told_as status.Refused (sym same ∙ ap front_status refused) tt in
        let what = told.1 in
        (what.0, told.0, what.1, refuses_own what.0 files told.0 what.2, told.2)

    pub memory_own : r ≡ mine.NoMemory → Gains err.old err.new err.before err.after (hinted hints (codes "NoMemory") memory_line)
    memory_own memory =
        let told = told_as status.NoMemory (sym same ∙ ap front_status memory) tt in
        subst (λ (l : List ℕ). Gains err.old err.new err.before err.after (hinted hints (codes "NoMemory") l)) told.1 told.2

    -- an end is a table that was written
    pub end_own : IsEnd s ⊎ (s ≡ status.NoMemory) → (r ≡ mine.Done) ⊎ (r ≡ mine.NoMemory)
    end_own (inl ends) = ended r (subst IsEnd (sym same) ends)
      where
        ended : (q : Own) → IsEnd (front_status q) → (q ≡ mine.Done) ⊎ (q ≡ mine.NoMemory)
        ended mine.Done ends = inl refl
        ended mine.Usage ends = absurd ends
        ended mine.ReadFault ends = absurd ends
        ended mine.Refused ends = absurd ends
        ended mine.WriteFault ends = absurd ends
        ended mine.NoMemory ends = inr refl
    end_own (inr memory) = inr (sym (back_front r) ∙ ap own_status (same ∙ memory))

    pub refusal_own : (s ≡ status.Refused) ⊎ (s ≡ status.NoMemory) → (r ≡ mine.Refused) ⊎ (r ≡ mine.NoMemory)
    refusal_own (inl refused) = inl (sym (back_front r) ∙ ap own_status (same ∙ refused))
    refusal_own (inr memory) = inr (sym (back_front r) ∙ ap own_status (same ∙ memory))

  -- a file could not be read
  module _ (before after : List ℕ → ℕ) (asks : Asking → ℕ → Type 0) (err : SinkChange) (r : Own) (s : Status) (same : front_status r ≡ s)
      (why : front.TellsWhy hints panels files (ending.Rose before after) asks asked s err) where
    pub read_own : r ≡ mine.ReadFault → (a : Asking) × (line : List ℕ) × (asked ≡ Some a) × IsUnread a files before after line
        × Gains err.old err.new err.before err.after (hinted hints (codes "ReadFault") line)
    read_own fault =
        let told = subst (λ (t : Status). front.TellsWhy hints panels files (ending.Rose before after) asks asked t err) (sym same ∙ ap front_status fault) why in
        let known = told tt in
        let what = known.1 in
        (what.0, known.0, what.2, unread_own what.0 files before after (asks what.0) what.1 known.0 what.3 what.4, known.2)

  -- nothing is rejected
  pub no_rejection : (s : Status) (out err : SinkChange) → front.IsWritten hints panels files asked s out err → s ≢ status.Rejected
  no_rejection s out err written rejected =
      let rejects = subst (λ (t : Status). front.IsWritten hints panels files asked t out err) rejected written in
      let went = rejects.answered tt in
      let what = went.2 in
      let done = answers_done what.0 files status.Rejected went.0 went.1 what.2 in cc
