-- What a run over files in memory says of the files that are given, and how the functions between end.
use Rattle.std.proofs.Common.{◌≡◌, ◌∙◌, ◌<◌, ◌≤◌, ℕ, [], List, Option, Some, None, Result, Ok, Err, IfOk, length, refl, sym, subst, ap, unwrap_or, map, string_bytes, inr}
use Rattle.rp_outside.specs.Files.{bytes_under}
use Rattle.rp_outside.specs.Known.{AreAll}
use Rattle.rp_command_line.specs.CommandLine.{Line, file_at, files_of}
use Rattle.rp_command_line.specs.Words.{denoted_line}
use Rattle.rp_answers.specs.Printed.{Printed}
use Rattle.rp_answers.specs.declared.choice_limits.ChoiceLimits.{ChoiceLimits}
use Rattle.rp_answers.specs.declared.status.Status.{Status}
use Rattle.rp_answers.specs.declared.status.Status.TheVariants.{Done, Rejected, Usage, ReadFault, Refused, WriteFault, NoMemory}
use Rattle.rp_commands.specs.Answers.{AnswersLineBy, AreContents, RefusesWithBy}
use Rattle.rp_frame.specs.Frames.{Frame, Request, request_in}
use Rattle.rp_frame.specs.Given.{AreGiven, IsFirstMissing}
use Rattle.rp_frame.specs.Handed.{Holds, IsText}
use Rattle.rp_frame.specs.declared.handed.Handed.{Handed}
use Rattle.rp_outside.specs.NamedFile.{named_bytes}
use Rattle.std.specs.Borrow.{Bor}
use Rattle.rp_call.specs.CallEndings.{IsEnded, IsEndingOf, IsRunOf, IsStatusOf, Requests, asked_of}
use Rattle.rp_call.specs.RunEndings.{EndsAsRun, EndsFor, IsRun, TellsUnread, known_in}
use Rattle.rp_call.specs.declared.asking.Texts.{Texts}
use Rattle.rp_call.specs.declared.ending.Ending.{Ending}
use Rattle.rp_call.specs.declared.ending.Ending.TheVariants.{Ran, NoText, Malformed}

-- the name past the last one
abbrev pub no_name : Bor (List ℕ)
no_name = record { ref_ptr = (0, 0); now = [] }

-- files, each as the pair of its name and its bytes
abbrev NamedFiles : Type 0
NamedFiles = List (List ℕ × List ℕ)

-- each file of a line is given, and no more are
abbrev IsWhole : NamedFiles → Line → Type 0
IsWhole files line = (length files ≤ length (files_of line)) × AreGiven files (files_of line)

given_all : (o : Option (List ℕ)) (bytes : List ℕ) → AreAll (Some (unwrap_or o [])) bytes → AreAll o bytes
given_all o bytes are x is = rw is at (are (unwrap_or o []) refl)

given_contents : (files : NamedFiles) (line : Line) (bytes : ℕ → List ℕ) → AreContents (known_in files) line bytes
    → AreContents (bytes_under files) line bytes
given_contents files line bytes are k within = given_all (bytes_under files (file_at line k)) (bytes k) (are k within)

given_answer : (printed : Printed) (files : NamedFiles) (line : Line) (s : Status) (text : List ℕ) → AnswersLineBy printed (known_in files) line s text
    → AnswersLineBy printed (bytes_under files) line s text
given_answer printed files line s text answers =
    (answers.0, (answers.1.0, given_contents files line answers.1.0 answers.1.1, answers.1.2, answers.1.3), answers.2)

given_refusal : (limits : ChoiceLimits) (files : NamedFiles) (line : Line) (text : List ℕ) → RefusesWithBy limits (known_in files) line text → RefusesWithBy limits (bytes_under files) line text
given_refusal limits files line text refuses = (refuses.0, given_contents files line refuses.0 refuses.1, refuses.2)

-- the status of a request is that of the run over its files, where each file of its line is given and no more are
status_of_run : (printed : Printed) (request : Request) (s : Status) (text told : List ℕ)
    → ((line : Line) → asked_of request ≡ Some line → IsWhole request.files line)
    → IsRun printed (known_in request.files) (asked_of request) s text told → IsStatusOf printed request s text told
status_of_run printed request Done text told whole run = record {
  line = run.line;
  asks = record { asked = run.asked; few = (whole run.line run.asked).0 };
  given = (whole run.line run.asked).1;
  answers = given_answer printed request.files run.line Done text run.answers;
  quiet = run.quiet;
}
status_of_run printed request Rejected text told whole run = record {
  line = run.line;
  asks = record { asked = run.asked; few = (whole run.line run.asked).0 };
  given = (whole run.line run.asked).1;
  answers = given_answer printed request.files run.line Rejected text run.answers;
  quiet = run.quiet;
}
status_of_run printed request Usage text told whole run = record { no_line = run.no_line; silent = run.silent; tells = run.tells }
status_of_run printed request ReadFault text told whole run = absurd run
status_of_run printed request Refused text told whole run = record {
  line = run.line;
  asks = record { asked = run.asked; few = (whole run.line run.asked).0 };
  given = (whole run.line run.asked).1;
  silent = run.silent;
  refuses = given_refusal printed.limits request.files run.line told run.refuses;
}
status_of_run printed request WriteFault text told whole run = absurd run
status_of_run printed request NoMemory text told whole run = absurd run

ended_as_run : (printed : Printed) (request : Request) (ending : Ending) (text told : List ℕ)
    → ((line : Line) → asked_of request ≡ Some line → IsWhole request.files line)
    → EndsAsRun printed (known_in request.files) (asked_of request) ending text told → IsEnded printed request ending text told
ended_as_run printed request (Ran s) text told whole run = status_of_run printed request s text told whole run
ended_as_run printed request NoText text told whole run = absurd run
ended_as_run printed request Malformed text told whole run = absurd run

run_ends : (printed : Printed) (words : List (List ℕ)) (files : NamedFiles) (ending : Ending) (text told : List ℕ)
    → ((line : Line) → denoted_line words ≡ Some line → IsWhole files line)
    → EndsAsRun printed (known_in files) (denoted_line words) ending text told → EndsFor printed words files ending text told
run_ends printed words files ending text told whole run = record {
  ended = λ request same also.
      ended_as_run printed request ending text told
      (λ line asked. subst (λ (given : NamedFiles). IsWhole given line) also (whole line (ap denoted_line same ∙ asked)))
      (subst (λ (said : List (List ℕ)). EndsAsRun printed (known_in request.files) (denoted_line said) ending text told) same
      (subst (λ (given : NamedFiles). EndsAsRun printed (known_in given) (denoted_line words) ending text told) also run));
}

asked_apart : (words : List (List ℕ)) (line : Line) → denoted_line words ≡ None → denoted_line words ≡ Some line → ⊥
asked_apart words line none is = cc

same_line : (words : List (List ℕ)) (line other : Line) → denoted_line words ≡ Some line → denoted_line words ≡ Some other → line ≡ other
same_line words line other is also = cc

-- a line of which each file is given, and no more are, ends as its run
pub line_ends : (printed : Printed) (words : List (List ℕ)) (files : NamedFiles) (line : Line) {E : Type 0} (result : Result Texts E) → denoted_line words ≡ Some line
    → length files ≤ length (files_of line) → AreGiven files (files_of line)
    → IfOk result (λ texts. EndsAsRun printed (known_in files) (denoted_line words) texts.ending texts.output.items texts.told.items)
    → IfOk result (λ texts. EndsFor printed words files texts.ending texts.output.items texts.told.items)
line_ends printed words files line (Ok texts) asked few given run =
    run_ends printed words files texts.ending texts.output.items texts.told.items
    (λ other is. subst (λ (l : Line). IsWhole files l) (same_line words line other asked is) (few, given)) run
line_ends printed words files line (Err e) asked few given run = run

-- a line of which more files are given than it names is malformed
pub many_ends : (printed : Printed) (words : List (List ℕ)) (files : NamedFiles) (line : Line) (ending : Ending) (text told : List ℕ) → denoted_line words ≡ Some line
    → length (files_of line) < length files → ending ≡ Malformed → text ≡ [] → told ≡ [] → EndsFor printed words files ending text told
many_ends printed words files line ending text told asked many is silent quiet = record {
  ended = λ request same also.
      subst (λ (e : Ending). IsEnded printed request e text told) (sym is) (
        record {
          line = line;
          asked = ap denoted_line (sym same) ∙ asked;
          many = subst (λ (given : NamedFiles). length (files_of line) < length given) also many;
        },
        silent,
        quiet,
      );
}

unread_ended : (printed : Printed) (words : List (List ℕ)) (files : NamedFiles) (line : Line) (k : ℕ) (ending : Ending) (text told : List ℕ) → denoted_line words ≡ Some line
    → length files ≤ length (files_of line) → IsFirstMissing files (files_of line) k → TellsUnread (file_at line k) ending text told
    → EndsFor printed words files ending text told
unread_ended printed words files line k ending text told asked few first unread = record {
  ended = λ request same also.
      subst (λ (e : Ending). IsEnded printed request e text told) (sym unread.ends) (record {
        line = line;
        asks = record {
          asked = ap denoted_line (sym same) ∙ asked;
          few = subst (λ (given : NamedFiles). length given ≤ length (files_of line)) also few;
        };
        place = k;
        first = subst (λ (given : NamedFiles). IsFirstMissing given (files_of line) k) also first;
        silent = unread.silent;
        tells = unread.tells;
      });
}

-- a line of which a file is not given tells the first such one
pub unread_ends : (printed : Printed) (words : List (List ℕ)) (files : NamedFiles) (line : Line) (k : ℕ) {E : Type 0} (result : Result Texts E) → denoted_line words ≡ Some line
    → length files ≤ length (files_of line) → IsFirstMissing files (files_of line) k
    → IfOk result (λ texts. TellsUnread (file_at line k) texts.ending texts.output.items texts.told.items)
    → IfOk result (λ texts. EndsFor printed words files texts.ending texts.output.items texts.told.items)
unread_ends printed words files line k (Ok texts) asked few first unread =
    unread_ended printed words files line k texts.ending texts.output.items texts.told.items asked few first unread
unread_ends printed words files line k (Err e) asked few first unread = unread

-- the status of a frame's request is that of the call
status_runs : (printed : Printed) (frame : Frame) (request : Request) (s : Status) (text told : List ℕ) → Requests frame request → IsStatusOf printed request s text told
    → IsRunOf printed frame s text told
status_runs printed frame request Done text told requests status = (request, requests, status)
status_runs printed frame request Rejected text told requests status = (request, requests, status)
status_runs printed frame request Usage text told requests status = (request, requests, status)
status_runs printed frame request ReadFault text told requests status = (request, requests, status)
status_runs printed frame request Refused text told requests status = (request, requests, status)
status_runs printed frame request WriteFault text told requests status = absurd status
status_runs printed frame request NoMemory text told requests status = absurd status

request_ends : (printed : Printed) (frame : Frame) (request : Request) (ending : Ending) (text told : List ℕ) → Requests frame request → IsEnded printed request ending text told
    → IsEndingOf printed frame ending text told
request_ends printed frame request (Ran s) text told requests ended = status_runs printed frame request s text told requests ended
request_ends printed frame request NoText text told requests ended = absurd ended
request_ends printed frame request Malformed text told requests (many, silent, quiet) = (inr (request, requests, many), silent, quiet)

-- a frame ends as what was read of it
pub frame_ends : (printed : Printed) (frame : Frame) (handed : Handed) {E : Type 0} (result : Result Texts E)
    → (request : Request) × Holds handed request × IsText request × (request_in frame ≡ Some request)
    → IfOk result (λ texts. EndsFor printed (map string_bytes handed.words.items) (map named_bytes handed.files.items) texts.ending texts.output.items texts.told.items)
    → IfOk result (λ texts. IsEndingOf printed frame texts.ending texts.output.items texts.told.items)
frame_ends printed frame handed (Ok texts) (request, holds, text, held) ends =
    request_ends printed frame request texts.ending texts.output.items texts.told.items (record { held = held; text = text })
    (ends.ended request holds.words holds.files)
frame_ends printed frame handed (Err e) read ends = ends
