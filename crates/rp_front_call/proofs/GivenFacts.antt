-- What a run over files in memory says of the files that are given, and how the functions between end.
use Rattle.std.proofs.Common.{◌≡◌, ◌∙◌, ◌<◌, ◌≤◌, ℕ, [], List, Option, Some, None, Result, Ok, Err, IfOk, length, refl, sym, subst, ap, unwrap_or, map, option_map, string_bytes, inl, inr}
use Rattle.std.specs.Option.{ForSome}
use Rattle.std.specs.Prelude.{slice_index_or}
use Rattle.std.specs.Borrow.{Bor}
use Rattle.rp_outside.specs.Files.{bytes_under}
use Rattle.rp_outside.specs.NamedFile.{named_bytes}
use Rattle.rp_frame.specs.Frames.{Frame, Request, request_in}
use Rattle.rp_frame.specs.Given.{AreGiven, IsFirstMissing}
use Rattle.rp_frame.specs.Handed.{Holds, IsText}
use Rattle.rp_frame.specs.declared.handed.Handed.{Handed}
use Rattle.rp_front.specs.Contents.{AnswersWith, AreContents, RefusesWith, file_at}
use Rattle.rp_front.specs.Lines.{read_line}
use Rattle.rp_front.specs.Meaning.{Meaning}
use Rattle.rp_front.specs.declared.status.Status.{Status}
use Rattle.rp_front.specs.declared.status.Status.TheVariants.{Done, Rejected, Usage, ReadFault, Refused, WriteFault, NoMemory}
use Rattle.rp_front_call.specs.CallEndings.{IsEndingOf, IsRunOf, IsStatusOf, Requests, asked_of}
use Rattle.rp_front_call.specs.InnerEndings.{EndsAsRun, EndsFor, IsEnded, IsRun, TellsUnread, known_in}
use Rattle.rp_front_call.specs.declared.asking.Texts.{Texts}
use Rattle.rp_front_call.specs.declared.ending.Ending.{Ending}
use Rattle.rp_front_call.specs.declared.ending.Ending.TheVariants.{Ran, NoText, Malformed}

-- the name past the last one
abbrev pub no_name : Bor (List ℕ)
no_name = record { ref_ptr = (0, 0); now = [] }

-- files, each as the pair of its name and its bytes
abbrev NamedFiles : Type 0
NamedFiles = List (List ℕ × List ℕ)

module _ (m : Meaning) where
  -- each file that is asked for is given, and no more are
  abbrev IsWhole : NamedFiles → m.Asked → Type 0
  IsWhole files a = (length files ≤ length (m.files_of a)) × AreGiven files (m.files_of a)

  -- these are the names of the files that words ask for
  abbrev pub AreNamesIn : List (List ℕ) → List (List ℕ) → Type 0
  AreNamesIn words names = Some names ≡ option_map m.files_of (m.asked_in words)

  of_given : {P : List ℕ → Type 0} (o : Option (List ℕ)) → ForSome (Some (unwrap_or o [])) P → ForSome o P
  of_given {P} o are bytes is = subst (λ (p : Option (List ℕ)). P (unwrap_or p [])) is (are (unwrap_or o []) refl)

  given_contents : (a : m.Asked) (files : NamedFiles) (bytes : ℕ → List ℕ) → AreContents m (known_in files) a bytes → AreContents m (bytes_under files) a bytes
  given_contents a files bytes are k within = of_given {P = λ all. bytes k ≡ all} (bytes_under files (file_at m a k)) (are k within)

  given_text : (a : m.Asked) (s : Status) (text told : List ℕ) (files : NamedFiles) → AnswersWith m (known_in files) a s text told
      → AnswersWith m (bytes_under files) a s text told
  given_text a s text told files (bytes, are, is) = (bytes, given_contents a files bytes are, is)

  given_refusal : (a : m.Asked) (line : List ℕ) (files : NamedFiles) → RefusesWith m (known_in files) a line → RefusesWith m (bytes_under files) a line
  given_refusal a line files (bytes, are, is) = (bytes, given_contents a files bytes are, is)

  -- the status of a request is that of the run over its files, where each file that it names is given and no more are
  status_of_run : (request : Request) (s : Status) (text told : List ℕ) → ((a : m.Asked) → asked_of m request ≡ Some a → IsWhole request.files a)
      → IsRun m (known_in request.files) (asked_of m request) s text told → IsStatusOf m request s text told
  status_of_run request Done text told whole run = record {
    question = run.question;
    asks = record { asked = run.asks; few = (whole run.question run.asks).0 };
    given = (whole run.question run.asks).1;
    written = given_text run.question Done text told request.files run.written;
  }
  status_of_run request Rejected text told whole run = record {
    question = run.question;
    asks = record { asked = run.asks; few = (whole run.question run.asks).0 };
    given = (whole run.question run.asks).1;
    written = given_text run.question Rejected text told request.files run.written;
  }
  status_of_run request Usage text told whole run = record { no_question = run.no_question; silent = run.silent; tells = run.tells }
  status_of_run request ReadFault text told whole run = absurd run
  status_of_run request Refused text told whole run = record {
    question = run.question;
    asks = record { asked = run.asks; few = (whole run.question run.asks).0 };
    given = (whole run.question run.asks).1;
    silent = run.silent;
    refuses = given_refusal run.question told request.files run.refuses;
  }
  status_of_run request WriteFault text told whole run = absurd run
  status_of_run request NoMemory text told whole run = absurd run

  ended_as_run : (request : Request) (ending : Ending) (text told : List ℕ) → ((a : m.Asked) → asked_of m request ≡ Some a → IsWhole request.files a)
      → EndsAsRun m (known_in request.files) (asked_of m request) ending text told → IsEnded m request ending text told
  ended_as_run request (Ran s) text told whole run = status_of_run request s text told whole run
  ended_as_run request NoText text told whole run = absurd run
  ended_as_run request Malformed text told whole run = absurd run

  run_ends : (words : List (List ℕ)) (files : NamedFiles) (ending : Ending) (text told : List ℕ) → ((a : m.Asked) → m.asked_in words ≡ Some a → IsWhole files a)
      → EndsAsRun m (known_in files) (m.asked_in words) ending text told → EndsFor m words files ending text told
  run_ends words files ending text told whole run = record {
    ended = λ request same also.
        ended_as_run request ending text told
        (λ a asked. subst (λ (given : NamedFiles). IsWhole given a) also (whole a (ap m.asked_in same ∙ asked)))
        (subst (λ (said : List (List ℕ)). EndsAsRun m (known_in request.files) (m.asked_in said) ending text told) same
        (subst (λ (given : NamedFiles). EndsAsRun m (known_in given) (m.asked_in words) ending text told) also run));
  }

  -- what is asked, of which these are the files
  asked_for : (o : Option m.Asked) (names : List (List ℕ)) → Some names ≡ option_map m.files_of o → (a : m.Asked) × (o ≡ Some a) × (names ≡ m.files_of a)
  asked_for (Some a) names is = let same : names ≡ m.files_of a = cc in (a, refl, same)
  asked_for None names is = cc is

  same_asking : (words : List (List ℕ)) (a other : m.Asked) → m.asked_in words ≡ Some a → m.asked_in words ≡ Some other → a ≡ other
  same_asking words a other is also = cc

  -- words that ask for nothing end as their run
  pub nothing_ends : (words : List (List ℕ)) (files : NamedFiles) {E : Type 0} (result : Result Texts E) → None ≡ option_map m.files_of (m.asked_in words)
      → IfOk result (λ texts. EndsAsRun m (known_in files) (m.asked_in words) texts.ending texts.output.items texts.told.items)
      → IfOk result (λ texts. EndsFor m words files texts.ending texts.output.items texts.told.items)
  nothing_ends words files (Ok texts) none run =
      run_ends words files texts.ending texts.output.items texts.told.items
      (λ a asked. absurd (apart a asked)) run
    where
      apart : (a : m.Asked) → m.asked_in words ≡ Some a → ⊥
      apart a asked = let wrong : None ≡ Some (m.files_of a) = none ∙ ap (option_map m.files_of) asked in cc
  nothing_ends words files (Err e) none run = run

  -- words that ask for files of which each is given, and no more are, end as their run
  pub asked_ends : (words names : List (List ℕ)) (files : NamedFiles) {E : Type 0} (result : Result Texts E) → AreNamesIn words names
      → length files ≤ length names → AreGiven files names
      → IfOk result (λ texts. EndsAsRun m (known_in files) (m.asked_in words) texts.ending texts.output.items texts.told.items)
      → IfOk result (λ texts. EndsFor m words files texts.ending texts.output.items texts.told.items)
  asked_ends words names files (Ok texts) named few given run =
      let (a, asked, same) = asked_for (m.asked_in words) names named in
      run_ends words files texts.ending texts.output.items texts.told.items
      (λ other is. subst (λ (b : m.Asked). IsWhole files b) (same_asking words a other asked is) (subst (λ (ns : List (List ℕ)). length files ≤ length ns) same few, subst (λ (ns : List (List ℕ)). AreGiven files ns) same given)) run
  asked_ends words names files (Err e) named few given run = run

  -- words that ask for fewer files than are given are malformed
  pub many_ends : (words names : List (List ℕ)) (files : NamedFiles) (ending : Ending) (text told : List ℕ) → AreNamesIn words names
      → length names < length files → ending ≡ Malformed → text ≡ [] → told ≡ [] → EndsFor m words files ending text told
  many_ends words names files ending text told named many is silent quiet =
      let (a, asked, same) = asked_for (m.asked_in words) names named in
      record {
        ended = λ request said also.
            subst (λ (e : Ending). IsEnded m request e text told) (sym is) (
              record {
                question = a;
                asked = ap m.asked_in (sym said) ∙ asked;
                many = subst (λ (given : NamedFiles). length (m.files_of a) < length given) also (subst (λ (ns : List (List ℕ)). length ns < length files) same many);
              },
              silent,
              quiet,
            );
      }

  unread_ended : (words names : List (List ℕ)) (files : NamedFiles) (k : ℕ) (ending : Ending) (text told : List ℕ) → AreNamesIn words names
      → length files ≤ length names → IsFirstMissing files names k → TellsUnread m (slice_index_or names k []) ending text told → EndsFor m words files ending text told
  unread_ended words names files k ending text told named few first unread =
      let (a, asked, same) = asked_for (m.asked_in words) names named in
      record {
        ended = λ request said also.
            subst (λ (e : Ending). IsEnded m request e text told) (sym unread.ends) (record {
              question = a;
              asks = record {
                asked = ap m.asked_in (sym said) ∙ asked;
                few = subst (λ (given : NamedFiles). length given ≤ length (m.files_of a)) also (subst (λ (ns : List (List ℕ)). length files ≤ length ns) same few);
              };
              place = k;
              first = subst (λ (given : NamedFiles). IsFirstMissing given (m.files_of a) k) also (subst (λ (ns : List (List ℕ)). IsFirstMissing files ns k) same first);
              silent = unread.silent;
              tells = unread.tells ∙ ap (λ (ns : List (List ℕ)). read_line m.name (slice_index_or ns k [])) same;
            });
      }

  -- words that ask for a file that is not given tell the first such one
  pub unread_ends : (words names : List (List ℕ)) (files : NamedFiles) (k : ℕ) {E : Type 0} (result : Result Texts E) → AreNamesIn words names
      → length files ≤ length names → IsFirstMissing files names k
      → IfOk result (λ texts. TellsUnread m (slice_index_or names k []) texts.ending texts.output.items texts.told.items)
      → IfOk result (λ texts. EndsFor m words files texts.ending texts.output.items texts.told.items)
  unread_ends words names files k (Ok texts) named few first unread =
      unread_ended words names files k texts.ending texts.output.items texts.told.items named few first unread
  unread_ends words names files k (Err e) named few first unread = unread

  -- the status of a frame's request is that of the call
  status_runs : (frame : Frame) (request : Request) (s : Status) (text told : List ℕ) → Requests frame request → IsStatusOf m request s text told
      → IsRunOf m frame s text told
  status_runs frame request Done text told requests status = record { request = request; requests = requests; is_status = status }
  status_runs frame request Rejected text told requests status = record { request = request; requests = requests; is_status = status }
  status_runs frame request Usage text told requests status = record { request = request; requests = requests; is_status = status }
  status_runs frame request ReadFault text told requests status = record { request = request; requests = requests; is_status = status }
  status_runs frame request Refused text told requests status = record { request = request; requests = requests; is_status = status }
  status_runs frame request WriteFault text told requests status = absurd status
  status_runs frame request NoMemory text told requests status = absurd status

  request_ends : (frame : Frame) (request : Request) (ending : Ending) (text told : List ℕ) → Requests frame request → IsEnded m request ending text told
      → IsEndingOf m frame ending text told
  request_ends frame request (Ran s) text told requests ended = status_runs frame request s text told requests ended
  request_ends frame request NoText text told requests ended = absurd ended
  request_ends frame request Malformed text told requests (many, silent, quiet) = (inr (request, requests, many), silent, quiet)

  -- a frame ends as what was read of it
  pub frame_ends : (frame : Frame) (handed : Handed) {E : Type 0} (result : Result Texts E)
      → (request : Request) × Holds handed request × IsText request × (request_in frame ≡ Some request)
      → IfOk result (λ texts. EndsFor m (map string_bytes handed.words.items) (map named_bytes handed.files.items) texts.ending texts.output.items texts.told.items)
      → IfOk result (λ texts. IsEndingOf m frame texts.ending texts.output.items texts.told.items)
  frame_ends frame handed (Ok texts) (request, holds, text, held) ends =
      request_ends frame request texts.ending texts.output.items texts.told.items (record { held = held; text = text })
      (ends.ended request holds.words holds.files)
  frame_ends frame handed (Err e) read ends = ends
