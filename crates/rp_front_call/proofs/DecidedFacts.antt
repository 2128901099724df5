-- The causes of the endings exclude one another, so the frame decides which ending comes.
use Rattle.std.proofs.Common.{◌≡◌, ◌<◌, ◌≤◌, ℕ, List, ◌∷◌, Option, Some, None, inl, inr, refl, subst, sym, ap, arith, length}
use Rattle.rp_frame.specs.Frames.{Frame, Request, request_in}
use Rattle.rp_frame.specs.Given.{AreGiven, IsFirstMissing}
use Rattle.rp_frame.specs.Handed.{IsText}
use Rattle.rp_front.specs.Contents.{AnswersWith, Files, IsAccepted, IsRefused, RefusesWith}
use Rattle.rp_front.specs.Endings.{IsEnd}
use Rattle.rp_front.specs.Meaning.{Meaning}
use Rattle.rp_front.specs.declared.status.Status.{Status}
use Rattle.rp_front.specs.declared.status.Status.TheVariants.{Done, Rejected, Usage, ReadFault, Refused, WriteFault, NoMemory}
use Rattle.rp_front_call.specs.CallEndings.{Asks, HasAnswer, HasTooMany, IsDecided, IsEndingOf, IsRunOf, IsStatusOf, Requests, asked_of, given_files}
use Rattle.rp_front_call.specs.declared.ending.Ending.{Ending}
use Rattle.rp_front_call.specs.declared.ending.Ending.TheVariants.{Ran, NoText, Malformed}

-- a program, by its laws: what it answers it accepts, and what it accepts it does not refuse
module _ (m : Meaning)
    (answers_accepted : (a : m.Asked) (bytes : ℕ → List ℕ) (s : Status) (text told : List ℕ) → m.answers a bytes s text told → m.accepts a bytes)
    (never_both : (a : m.Asked) (bytes : ℕ → List ℕ) (line : List ℕ) → m.accepts a bytes → ¬ m.refuses a (λ k. Some (bytes k)) line) where
  -- what a request asks is one
  one_asking : (request : Request) (a other : m.Asked) → asked_of m request ≡ Some a → asked_of m request ≡ Some other → a ≡ other
  one_asking request a other is also = cc

  none_apart : (request : Request) (a : m.Asked) → asked_of m request ≡ None → asked_of m request ≡ Some a → ⊥
  none_apart request a none is = cc

  many_apart : (request : Request) (a : m.Asked) → HasTooMany m request → Asks m request a → ⊥
  many_apart request a many asks =
      omega (arith, asks.few, subst (λ (b : m.Asked). length (m.files_of b) < length request.files) (one_asking request many.question a many.asked asks.asked) many.many)

  given_apart : (request : Request) (a other : m.Asked) (k : ℕ) → Asks m request a → AreGiven request.files (m.files_of a) → Asks m request other
      → IsFirstMissing request.files (m.files_of other) k → ⊥
  given_apart request a other k asks given also first =
      let here = subst (λ (b : m.Asked). IsFirstMissing request.files (m.files_of b) k) (one_asking request other a also.asked asks.asked) first in
      given k here.within here.missing

  -- what is answered is not refused, and what is accepted is not refused
  answered_apart : (a : m.Asked) (files : Files) (s : Status) (text told : List ℕ) → AnswersWith m files a s text told → IsRefused m files a → ⊥
  answered_apart a files s text told (bytes, contents, answers) refused =
      let (line, refuses) = refused bytes contents in
      never_both a bytes line (answers_accepted a bytes s text told answers) refuses

  refused_apart : (a : m.Asked) (files : Files) (line : List ℕ) → IsAccepted m files a → RefusesWith m files a line → ⊥
  refused_apart a files line accepted (bytes, contents, refuses) = never_both a bytes line (accepted bytes contents) refuses

  written_apart : (request : Request) (a other : m.Asked) (s : Status) (text told : List ℕ) → Asks m request a → Asks m request other
      → AnswersWith m (given_files request) other s text told → IsRefused m (given_files request) a → ⊥
  written_apart request a other s text told asks also answers refused =
      answered_apart a (given_files request) s text told
      (subst (λ (b : m.Asked). AnswersWith m (given_files request) b s text told) (one_asking request other a also.asked asks.asked) answers) refused

  accepted_apart : (request : Request) (a other : m.Asked) (line : List ℕ) → Asks m request a → Asks m request other
      → IsAccepted m (given_files request) a → RefusesWith m (given_files request) other line → ⊥
  accepted_apart request a other line asks also accepted refuses =
      refused_apart a (given_files request) line accepted
      (subst (λ (b : m.Asked). RefusesWith m (given_files request) b line) (one_asking request other a also.asked asks.asked) refuses)

  no_asking_of : (request : Request) (s : Status) (text told : List ℕ) → asked_of m request ≡ None → IsStatusOf m request s text told → s ≡ Usage
  no_asking_of request Done text told none is = absurd (none_apart request is.question none is.asks.asked)
  no_asking_of request Rejected text told none is = absurd (none_apart request is.question none is.asks.asked)
  no_asking_of request Usage text told none is = refl
  no_asking_of request ReadFault text told none is = absurd (none_apart request is.question none is.asks.asked)
  no_asking_of request Refused text told none is = absurd (none_apart request is.question none is.asks.asked)
  no_asking_of request WriteFault text told none is = absurd is
  no_asking_of request NoMemory text told none is = absurd is

  few_of : (request : Request) (s : Status) (text told : List ℕ) → HasTooMany m request → IsStatusOf m request s text told → ⊥
  few_of request Done text told many is = many_apart request is.question many is.asks
  few_of request Rejected text told many is = many_apart request is.question many is.asks
  few_of request Usage text told many is = none_apart request many.question is.no_question many.asked
  few_of request ReadFault text told many is = many_apart request is.question many is.asks
  few_of request Refused text told many is = many_apart request is.question many is.asks
  few_of request WriteFault text told many is = is
  few_of request NoMemory text told many is = is

  missing_of : (request : Request) (a : m.Asked) (k : ℕ) (s : Status) (text told : List ℕ) → Asks m request a
      → IsFirstMissing request.files (m.files_of a) k → IsStatusOf m request s text told → s ≡ ReadFault
  missing_of request a k Done text told asks first is = absurd (given_apart request is.question a k is.asks is.given asks first)
  missing_of request a k Rejected text told asks first is = absurd (given_apart request is.question a k is.asks is.given asks first)
  missing_of request a k Usage text told asks first is = absurd (none_apart request a is.no_question asks.asked)
  missing_of request a k ReadFault text told asks first is = refl
  missing_of request a k Refused text told asks first is = absurd (given_apart request is.question a k is.asks is.given asks first)
  missing_of request a k WriteFault text told asks first is = absurd is
  missing_of request a k NoMemory text told asks first is = absurd is

  refused_of : (request : Request) (a : m.Asked) (s : Status) (text told : List ℕ) → Asks m request a → AreGiven request.files (m.files_of a)
      → IsRefused m (given_files request) a → IsStatusOf m request s text told → s ≡ Refused
  refused_of request a Done text told asks given refused is = absurd (written_apart request a is.question Done text told asks is.asks is.written refused)
  refused_of request a Rejected text told asks given refused is = absurd (written_apart request a is.question Rejected text told asks is.asks is.written refused)
  refused_of request a Usage text told asks given refused is = absurd (none_apart request a is.no_question asks.asked)
  refused_of request a ReadFault text told asks given refused is = absurd (given_apart request a is.question is.place asks given is.asks is.first)
  refused_of request a Refused text told asks given refused is = refl
  refused_of request a WriteFault text told asks given refused is = absurd is
  refused_of request a NoMemory text told asks given refused is = absurd is

  accepted_of : (request : Request) (a : m.Asked) (s : Status) (text told : List ℕ) → Asks m request a → AreGiven request.files (m.files_of a)
      → IsAccepted m (given_files request) a → IsStatusOf m request s text told → IsEnd s
  accepted_of request a Done text told asks given accepted is = tt
  accepted_of request a Rejected text told asks given accepted is = tt
  accepted_of request a Usage text told asks given accepted is = absurd (none_apart request a is.no_question asks.asked)
  accepted_of request a ReadFault text told asks given accepted is = absurd (given_apart request a is.question is.place asks given is.asks is.first)
  accepted_of request a Refused text told asks given accepted is = absurd (accepted_apart request a is.question told asks is.asks accepted is.refuses)
  accepted_of request a WriteFault text told asks given accepted is = absurd is
  accepted_of request a NoMemory text told asks given accepted is = absurd is

  one_request : (frame : Frame) (request other : Request) → request_in frame ≡ Some request → request_in frame ≡ Some other → request ≡ other
  one_request frame request other is also = cc

  none_held : (frame : Frame) (request : Request) → request_in frame ≡ None → request_in frame ≡ Some request → ⊥
  none_held frame request none is = cc

  -- a status of one request of a frame is that of the other
  moved : (frame : Frame) (request other : Request) (s : Status) (text told : List ℕ) → Requests frame request → Requests frame other
      → IsStatusOf m request s text told → IsStatusOf m other s text told
  moved frame request other s text told requests also status =
      subst (λ (r : Request). IsStatusOf m r s text told) (one_request frame request other requests.held also.held) status

  decided_status : (frame : Frame) (request : Request) (s : Status) (text told : List ℕ) → Requests frame request
      → IsStatusOf m request s text told → IsDecided m frame (Ran s)
  decided_status frame request s text told requests status = record {
    malformed = λ none. absurd (none_held frame request none requests.held);
    no_text = λ other is no_text. absurd (no_text (subst (λ (r : Request). IsText r) (one_request frame request other requests.held is) requests.text));
    no_question = λ other also none. inl (ap Ran (no_asking_of other s text told none (moved frame request other s text told requests also status)));
    too_many = λ other a also asked many.
        absurd (few_of other s text told (record { question = a; asked = asked; many = many }) (moved frame request other s text told requests also status));
    missing = λ other a k also asks first.
        inl (ap Ran (missing_of other a k s text told asks first (moved frame request other s text told requests also status)));
    refused = λ other a also asks given refused.
        inl (ap Ran (refused_of other a s text told asks given refused (moved frame request other s text told requests also status)));
    accepted = λ other a also asks given accepted.
        inl (accepted_of other a s text told asks given accepted (moved frame request other s text told requests also status));
  }

  decided_memory : (frame : Frame) → IsDecided m frame (Ran NoMemory)
  decided_memory frame = record {
    malformed = λ none. inr refl;
    no_text = λ request is no_text. inr refl;
    no_question = λ request requests none. inr refl;
    too_many = λ request a requests asked many. inr refl;
    missing = λ request a k requests asks first. inr refl;
    refused = λ request a requests asks given refused. inr refl;
    accepted = λ request a requests asks given accepted. inr refl;
  }

  decided_run : (frame : Frame) (s : Status) (text told : List ℕ) → IsRunOf m frame s text told → IsDecided m frame (Ran s)
  decided_run frame Done text told is = decided_status frame is.request Done text told is.requests is.is_status
  decided_run frame Rejected text told is = decided_status frame is.request Rejected text told is.requests is.is_status
  decided_run frame Usage text told is = decided_status frame is.request Usage text told is.requests is.is_status
  decided_run frame ReadFault text told is = decided_status frame is.request ReadFault text told is.requests is.is_status
  decided_run frame Refused text told is = decided_status frame is.request Refused text told is.requests is.is_status
  decided_run frame WriteFault text told is = absurd is.is_status
  decided_run frame NoMemory text told memory = decided_memory frame

  decided_no_text : (frame : Frame) (request : Request) → request_in frame ≡ Some request → (IsText request → ⊥) → IsDecided m frame NoText
  decided_no_text frame request is no_text =
      let apart : (other : Request) → Requests frame other → ⊥ = λ other also.
      no_text (subst (λ (r : Request). IsText r) (one_request frame other request also.held is) also.text) in
      record {
        malformed = λ none. absurd (none_held frame request none is);
        no_text = λ other held no. inl refl;
        no_question = λ other also none. absurd (apart other also);
        too_many = λ other a also asked many. absurd (apart other also);
        missing = λ other a k also asks first. absurd (apart other also);
        refused = λ other a also asks given refused. absurd (apart other also);
        accepted = λ other a also asks given accepted. absurd (apart other also);
      }

  decided_none : (frame : Frame) → request_in frame ≡ None → IsDecided m frame Malformed
  decided_none frame none = record {
    malformed = λ also. inl refl;
    no_text = λ other is no. absurd (none_held frame other none is);
    no_question = λ other also no_question. absurd (none_held frame other none also.held);
    too_many = λ other a also asked many. inl refl;
    missing = λ other a k also asks first. absurd (none_held frame other none also.held);
    refused = λ other a also asks given refused. absurd (none_held frame other none also.held);
    accepted = λ other a also asks given accepted. absurd (none_held frame other none also.held);
  }

  decided_many : (frame : Frame) (request : Request) → Requests frame request → HasTooMany m request → IsDecided m frame Malformed
  decided_many frame request requests many =
      let over : (other : Request) → Requests frame other → HasTooMany m other = λ other also.
      subst (λ (r : Request). HasTooMany m r) (one_request frame request other requests.held also.held) many in
      record {
        malformed = λ none. inl refl;
        no_text = λ other is no. absurd (no (subst (λ (r : Request). IsText r) (one_request frame request other requests.held is) requests.text));
        no_question = λ other also none. absurd (none_apart other (over other also).question none (over other also).asked);
        too_many = λ other a also asked too_many. inl refl;
        missing = λ other a k also asks first. absurd (many_apart other a (over other also) asks);
        refused = λ other a also asks given refused. absurd (many_apart other a (over other also) asks);
        accepted = λ other a also asks given accepted. absurd (many_apart other a (over other also) asks);
      }

  -- the frame decides the ending, by the causes of the endings
  pub decided : (frame : Frame) (ending : Ending) (text told : List ℕ) → IsEndingOf m frame ending text told → IsDecided m frame ending
  decided frame (Ran s) text told run = decided_run frame s text told run
  decided frame NoText text told (none, silent, quiet) = decided_no_text frame none.request none.held none.no_text
  decided frame Malformed text told (inl none, silent, quiet) = decided_none frame none
  decided frame Malformed text told (inr (request, requests, many), silent, quiet) = decided_many frame request requests many
