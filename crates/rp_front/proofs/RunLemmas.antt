-- What a cause tells of what was asked, and what is written and told of an answer.
use Rattle.std.proofs.Common.{◌≡◌, Bool, ◌⊎◌, ◌<◌, ℕ, zero, suc, inl, inr, List, [], ◌∷◌, ◌++◌, length, Option, Some, None, ap, arith, sym, subst, refl, ◌∙◌, append-nil, codes}
use Rattle.std.specs.List.{Contains}
use Rattle.std.proofs.lemmas.List.Elements.{Contains-get_or}
use Rattle.rp_outside.specs.Asked.{Reads}
use Rattle.rp_outside.specs.Faults.{HasRisen}
use Rattle.rp_outside.specs.Known.{Grows, GrowsByPrefix}
use Rattle.rp_front.specs.AskedInTurn.{AreAskedInTurn, AreOfFirst, GrowsByFirst}
use Rattle.rp_front.specs.Calls.{AnswersUsage, AsksByName, AsksInTurn, IsWritten, TellsWhy}
use Rattle.rp_front.specs.Contents.{AnswersWith, Files, IsAccepted, IsRefused, file_at}
use Rattle.rp_front.specs.Endings.{IsEnd, IsFaultLine, IsSilent, NoneRose, Rose, status_code}
use Rattle.rp_guide.specs.Gains.{Gains, SinkChange}
use Rattle.rp_front.specs.Gains.{GainsBoth}
use Rattle.rp_front.specs.InnerCauses.{IsCause, cause_line, status_of_cause}
use Rattle.rp_front.specs.Lines.{hinted, memory_line, write_line}
use Rattle.rp_front.specs.Meaning.{Meaning}
use Rattle.rp_front.specs.Turns.{AreReadInTurn}
use Rattle.rp_front.specs.declared.answer.Cause.{Cause}
use Rattle.rp_front.specs.declared.answer.Cause.TheVariants.{Read, Refused, NoMemory}
use Rattle.rp_front.specs.declared.status.Status.{Status}
use Rattle.rp_front.specs.declared.status.Status.TheVariants as status

-- no reads are of any files
pub no_reads : (n : ℕ) (files : List (List ℕ)) → AreOfFirst n files []
no_reads zero files = refl
no_reads (suc n) [] = refl
no_reads (suc n) (file ∷ files) = inl refl

pub stays_first : (before : Option Reads) (files : List (List ℕ)) (n : ℕ) → GrowsByFirst before before files n
stays_first before files n reads is = ([], is ∙ ap Some (sym (append-nil reads)), no_reads n files)

-- a status that ends is told apart from those that do not
ends_apart : (s : Status) → IsEnd s → IsSilent s → ⊥
ends_apart status.Done ends silent = silent
ends_apart status.Rejected ends silent = silent
ends_apart status.Usage ends silent = ends
ends_apart status.ReadFault ends silent = ends
ends_apart status.Refused ends silent = ends
ends_apart status.WriteFault ends silent = ends
ends_apart status.NoMemory ends silent = ends

module _ (m : Meaning) where
  its_file : (a : m.Asked) (k : ℕ) → k < length (m.files_of a) → Contains (m.files_of a) (file_at m a k)
  its_file a k within = Contains-get_or (m.files_of a) k [] within

  -- no file is asked for
  pub unread : (files : Files) (count : ℕ) (asked : Option m.Asked) → AsksInTurn m files count count asked
  unread files count asked = record {
    in_turn = λ a is. record { each_once = omega arith; none_after_refused = λ n refused. omega arith };
    none_asked = λ none. refl;
  }

  pub unasked : (files : Files) (before : Option Reads) (asked : Option m.Asked) → AsksByName m files before before asked
  unasked files before asked = record {
    by_name = λ a is. record {
      each_once = stays_first before (m.files_of a) (length (m.files_of a));
      none_after_refused = λ n refused. stays_first before (m.files_of a) n;
    };
    no_name = λ none reads is. is;
  }

  -- what is told where memory ran out
  pub why_of_memory : (hints : Bool) (files : Files) (rose : List ℕ → Type 0) (asks : m.Asked → ℕ → Type 0) (asked : Option m.Asked) (result : Status) (name : List ℕ) (err : SinkChange)
      → result ≡ status.NoMemory → name ≡ m.name → Gains err.old err.new err.before err.after (hinted hints (codes "NoMemory") (memory_line name))
      → TellsWhy hints m files rose asks asked result err
  why_of_memory hints files rose asks asked result name err ended named told = λ silent. (
    memory_line m.name,
    subst (λ (s : Status). IsFaultLine m files rose asks asked s (memory_line m.name)) (sym ended) refl,
    subst (λ (s : Status). Gains err.old err.new err.before err.after (hinted hints (status_code s (memory_line m.name)) (memory_line m.name))) (sym ended)
        (subst (λ (n : List ℕ). Gains err.old err.new err.before err.after (hinted hints (codes "NoMemory") (memory_line n))) named told),
  )

  -- by what words ask
  module _ (asked : Option m.Asked) (a : m.Asked) (is : asked ≡ Some a) (files : Files) where
    same : (other : m.Asked) → asked ≡ Some other → a ≡ other
    same other also = cc

    pub some_asked : {A : Type 0} → asked ≡ None → A
    some_asked none = cc

    pub asked_turns : (before after : ℕ) → AreReadInTurn m files before after a → AsksInTurn m files before after asked
    asked_turns before after turn = record {
      in_turn = λ other also. subst (λ (q : m.Asked). AreReadInTurn m files before after q) (same other also) turn;
      none_asked = λ none. some_asked none;
    }

    pub asked_names : (before after : Option Reads) → AreAskedInTurn m files before after a → AsksByName m files before after asked
    asked_names before after turn = record {
      by_name = λ other also. subst (λ (q : m.Asked). AreAskedInTurn m files before after q) (same other also) turn;
      no_name = λ none. some_asked none;
    }

    -- a cause of what nothing refuses, while no count of its files rose, is want of memory
    pub cause_of_accepted : ((b : m.Asked) (bytes : ℕ → List ℕ) (line : List ℕ) → m.accepts b bytes → m.refuses b (λ k. Some (bytes k)) line → ⊥)
        → (before after : List ℕ → ℕ) (asks : ℕ → Type 0) (other : m.Asked) (why : Cause) → asked ≡ Some other
        → IsAccepted m files other → NoneRose m other before after → IsCause m files (Rose before after) asks a why → status_of_cause why ≡ status.NoMemory
    cause_of_accepted apart before after asks other (Read file) also accepted calm (k, gone, its) =
        absurd (calm (file_at m a k) (subst (λ (b : m.Asked). Contains (m.files_of b) (file_at m a k)) (same other also) (its_file a k gone.within)) gone.risen)
    cause_of_accepted apart before after asks other (Refused text) also accepted calm (bytes, are, refused) =
        let ok = subst (λ (b : m.Asked). IsAccepted m files b) (sym (same other also)) accepted bytes are in
        absurd (apart a bytes text.items ok refused)
    cause_of_accepted apart before after asks other NoMemory also accepted calm none = refl

    -- a cause while no count of the files rose is a refusal or want of memory
    pub cause_of_calm : (before after : List ℕ → ℕ) (asks : ℕ → Type 0) (other : m.Asked) (why : Cause) → asked ≡ Some other
        → NoneRose m other before after → IsCause m files (Rose before after) asks a why → (status_of_cause why ≡ status.Refused) ⊎ (status_of_cause why ≡ status.NoMemory)
    cause_of_calm before after asks other (Read file) also calm (k, gone, its) =
        absurd (calm (file_at m a k) (subst (λ (b : m.Asked). Contains (m.files_of b) (file_at m a k)) (same other also) (its_file a k gone.within)) gone.risen)
    cause_of_calm before after asks other (Refused text) also calm refused = inl refl
    cause_of_calm before after asks other NoMemory also calm none = inr refl

    -- the line of a cause
    pub line_of_cause : (rose : List ℕ → Type 0) (asks : m.Asked → ℕ → Type 0) (why : Cause) → IsCause m files rose (asks a) a why
        → IsFaultLine m files rose asks asked (status_of_cause why) (cause_line m.name why)
    line_of_cause rose asks (Read file) (k, gone, its) = (a, k, is, gone, ap (λ (f : List ℕ). cause_line_of f) its)
      where
        cause_line_of : List ℕ → List ℕ
        cause_line_of f = m.name ++ (codes ": " ++ (f ++ (codes ": read failed" ++ 10 ∷ [])))
    line_of_cause rose asks (Refused text) refused = (a, is, refused)
    line_of_cause rose asks NoMemory none = refl

    -- what is told of a cause
    pub why_of_cause : (hints : Bool) (rose : List ℕ → Type 0) (asks : m.Asked → ℕ → Type 0) (why : Cause) (result : Status) (name : List ℕ) (err : SinkChange)
        → result ≡ status_of_cause why → name ≡ m.name → IsCause m files rose (asks a) a why
        → Gains err.old err.new err.before err.after (hinted hints (status_code (status_of_cause why) (cause_line name why)) (cause_line name why))
        → TellsWhy hints m files rose asks asked result err
    why_of_cause hints rose asks why result name err ended named cause told = λ silent. (
      cause_line m.name why,
      subst (λ (s : Status). IsFaultLine m files rose asks asked s (cause_line m.name why)) (sym ended) (line_of_cause rose asks why cause),
      subst (λ (s : Status). Gains err.old err.new err.before err.after (hinted hints (status_code s (cause_line m.name why)) (cause_line m.name why))) (sym ended)
          (subst (λ (n : List ℕ). Gains err.old err.new err.before err.after (hinted hints (status_code (status_of_cause why) (cause_line n why)) (cause_line n why))) named told),
    )

    -- what is answered is not refused
    pub not_both : ((b : m.Asked) (bytes : ℕ → List ℕ) (line : List ℕ) → m.accepts b bytes → m.refuses b (λ k. Some (bytes k)) line → ⊥)
        → ((b : m.Asked) (bytes : ℕ → List ℕ) (s : Status) (text told : List ℕ) → m.answers b bytes s text told → m.accepts b bytes)
        → (other : m.Asked) (s : Status) (text told : List ℕ) → asked ≡ Some other → AnswersWith m files a s text told → IsRefused m files other → ⊥
    not_both apart accepts other s text told also (bytes, are, answers) refused =
        let err = subst (λ (b : m.Asked). IsRefused m files b) (sym (same other also)) refused bytes are in
        apart a bytes err.0 (accepts a bytes s text told answers) err.1

    -- what is written of an answer
    pub answer_written : (hints : Bool) (given result : Status) (text told : List ℕ) (out err : SinkChange) → AnswersWith m files a given text told → IsEnd given
        → (result ≡ given) ⊎ (result ≡ status.WriteFault)
        → (IsEnd result → Grows out.old out.new text × Gains err.old err.new err.before err.after told)
        → (result ≡ status.WriteFault → GrowsByPrefix out.old out.new text × HasRisen out.before out.after × GainsBoth err.old err.new err.before err.after told (hinted hints (codes "WriteFault") (write_line m.name)))
        → IsWritten hints m files asked result out err
    answer_written hints given result text told out err answers ends either whole part = record {
      answered = λ ended. (text, told, (a, is, subst (λ (s : Status). AnswersWith m files a s text told) (sym (given_is ended)) answers), (whole ended).0, (whole ended).1);
      cut_short = λ cut. (given, text, told, (a, is, answers), (part cut).0, (part cut).2);
      silent = λ silent. absurd (never_silent silent);
      write_counted = λ cut. (part cut).1;
    }
      where
        given_is : IsEnd result → result ≡ given
        given_is ended = elim either [
          | inl same_status ↦ same_status
          | inr cut ↦ absurd (subst IsEnd cut ended)
        ]

        never_silent : IsSilent result → ⊥
        never_silent silent = elim either [
          | inl same_status ↦ ends_apart result (subst IsEnd (sym same_status) ends) silent
          | inr cut ↦ subst IsSilent cut silent
        ]

-- an answer is no usage
pub answered_words : {A : Type 0} (asked : Option A) (a : A) (given result : Status) → asked ≡ Some a → IsEnd given → (result ≡ given) ⊎ (result ≡ status.WriteFault) → AnswersUsage asked result
answered_words asked a given result is ends either = record {
  usage = λ used. absurd (elim either [
    | inl same_status ↦ subst IsEnd (sym same_status ∙ used) ends
    | inr cut ↦ (let wrong = sym cut ∙ used in cc)
  ]);
  no_line = λ none. cc;
}
