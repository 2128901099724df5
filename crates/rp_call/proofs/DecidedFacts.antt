-- The causes of the endings exclude one another, so the frame decides which ending comes.
use Rattle.std.proofs.Common.{◌≡◌, ◌<◌, ℕ, List, Some, None, Ok, Err, inl, inr, refl, subst, ap, arith, length}
use Rattle.rp_command_line.specs.CommandLine.{Line, files_of}
use Rattle.rp_answers.specs.Printed.{Printed}
use Rattle.rp_answers.specs.declared.choice_limits.ChoiceLimits.{ChoiceLimits}
use Rattle.rp_answers.specs.declared.status.Status.{Status}
use Rattle.rp_answers.specs.declared.status.Status.TheVariants.{Done, Rejected, Usage, ReadFault, Refused, WriteFault, NoMemory}
use Rattle.rp_patch.proofs.Determined.{same_list}
use Rattle.rp_types.proofs.Determined.{types_once}
use Rattle.rp_commands.proofs.OneAnswer.{denotes_one}
use Rattle.rp_commands.proofs.RunLemmas.{not_both}
use Rattle.rp_commands.specs.Answers.{IsAcceptedBy, IsRefusedBy, RefusesWithBy}
use Rattle.rp_commands.specs.Contents.{Contents, DenotesBy}
use Rattle.rp_commands.specs.Endings.{IsEnd}
use Rattle.rp_frame.specs.Frames.{Frame, Request, request_in}
use Rattle.rp_frame.specs.Given.{AreGiven, IsFirstMissing}
use Rattle.rp_frame.specs.Handed.{IsText}
use Rattle.rp_call.specs.CallEndings.{Asks, HasTooMany, IsDecidedBy, IsEndingOf, IsRunOf, IsStatusOf, Requests, asked_of, given_files}
use Rattle.rp_call.specs.declared.ending.Ending.{Ending}
use Rattle.rp_call.specs.declared.ending.Ending.TheVariants.{Ran, NoText, Malformed}

-- the line of a request is one
one_line : (request : Request) (line other : Line) → asked_of request ≡ Some line → asked_of request ≡ Some other → line ≡ other
one_line request line other is also = cc

none_apart : (request : Request) (line : Line) → asked_of request ≡ None → asked_of request ≡ Some line → ⊥
none_apart request line none is = cc

many_apart : (request : Request) (line : Line) → HasTooMany request → Asks request line → ⊥
many_apart request line many asks =
    omega (arith, asks.few, subst (λ (l : Line). length (files_of l) < length request.files) (one_line request many.line line many.asked asks.asked) many.many)

given_apart : (request : Request) (line other : Line) (k : ℕ) → Asks request line → AreGiven request.files (files_of line) → Asks request other
    → IsFirstMissing request.files (files_of other) k → ⊥
given_apart request line other k asks given also first =
    let here = subst (λ (l : Line). IsFirstMissing request.files (files_of l) k) (one_line request other line also.asked asks.asked) first in
    given k here.within here.missing

denoted_apart : (limits : ChoiceLimits) (line : Line) (bytes : ℕ → List ℕ) (held : Contents) (text : List ℕ) → DenotesBy limits line bytes (Ok held) → DenotesBy limits line bytes (Err text) → ⊥
denoted_apart limits line bytes held text taken refused =
    let wrong : Ok held ≡ Err text = denotes_one same_list types_once limits line bytes (Ok held) (Err text) taken refused in
    cc

accepted_apart : (limits : ChoiceLimits) (request : Request) (line other : Line) (told : List ℕ) → Asks request line → Asks request other
    → IsAcceptedBy limits (given_files request) line → RefusesWithBy limits (given_files request) other told → ⊥
accepted_apart limits request line other told asks also accepted refuses =
    let here = subst (λ (l : Line). RefusesWithBy limits (given_files request) l told) (one_line request other line also.asked asks.asked) refuses in
    let held = accepted here.0 here.1 in
    denoted_apart limits line here.0 held.0 told held.1 here.2

no_line_of : (printed : Printed) (request : Request) (s : Status) (text told : List ℕ) → asked_of request ≡ None → IsStatusOf printed request s text told → s ≡ Usage
no_line_of printed request Done text told none is = absurd (none_apart request is.line none is.asks.asked)
no_line_of printed request Rejected text told none is = absurd (none_apart request is.line none is.asks.asked)
no_line_of printed request Usage text told none is = refl
no_line_of printed request ReadFault text told none is = absurd (none_apart request is.line none is.asks.asked)
no_line_of printed request Refused text told none is = absurd (none_apart request is.line none is.asks.asked)
no_line_of printed request WriteFault text told none is = absurd is
no_line_of printed request NoMemory text told none is = absurd is

few_of : (printed : Printed) (request : Request) (s : Status) (text told : List ℕ) → HasTooMany request → IsStatusOf printed request s text told → ⊥
few_of printed request Done text told many is = many_apart request is.line many is.asks
few_of printed request Rejected text told many is = many_apart request is.line many is.asks
few_of printed request Usage text told many is = none_apart request many.line is.no_line many.asked
few_of printed request ReadFault text told many is = many_apart request is.line many is.asks
few_of printed request Refused text told many is = many_apart request is.line many is.asks
few_of printed request WriteFault text told many is = is
few_of printed request NoMemory text told many is = is

missing_of : (printed : Printed) (request : Request) (line : Line) (k : ℕ) (s : Status) (text told : List ℕ) → Asks request line
    → IsFirstMissing request.files (files_of line) k → IsStatusOf printed request s text told → s ≡ ReadFault
missing_of printed request line k Done text told asks first is = absurd (given_apart request is.line line k is.asks is.given asks first)
missing_of printed request line k Rejected text told asks first is = absurd (given_apart request is.line line k is.asks is.given asks first)
missing_of printed request line k Usage text told asks first is = absurd (none_apart request line is.no_line asks.asked)
missing_of printed request line k ReadFault text told asks first is = refl
missing_of printed request line k Refused text told asks first is = absurd (given_apart request is.line line k is.asks is.given asks first)
missing_of printed request line k WriteFault text told asks first is = absurd is
missing_of printed request line k NoMemory text told asks first is = absurd is

refused_of : (printed : Printed) (request : Request) (line : Line) (s : Status) (text told : List ℕ) → Asks request line → AreGiven request.files (files_of line)
    → IsRefusedBy printed.limits (given_files request) line → IsStatusOf printed request s text told → s ≡ Refused
refused_of printed request line Done text told asks given refused is =
    absurd (not_both printed (given_files request) (asked_of request) is.line line Done text is.asks.asked asks.asked is.answers refused)
refused_of printed request line Rejected text told asks given refused is =
    absurd (not_both printed (given_files request) (asked_of request) is.line line Rejected text is.asks.asked asks.asked is.answers refused)
refused_of printed request line Usage text told asks given refused is = absurd (none_apart request line is.no_line asks.asked)
refused_of printed request line ReadFault text told asks given refused is = absurd (given_apart request line is.line is.place asks given is.asks is.first)
refused_of printed request line Refused text told asks given refused is = refl
refused_of printed request line WriteFault text told asks given refused is = absurd is
refused_of printed request line NoMemory text told asks given refused is = absurd is

accepted_of : (printed : Printed) (request : Request) (line : Line) (s : Status) (text told : List ℕ) → Asks request line → AreGiven request.files (files_of line)
    → IsAcceptedBy printed.limits (given_files request) line → IsStatusOf printed request s text told → IsEnd s
accepted_of printed request line Done text told asks given accepted is = tt
accepted_of printed request line Rejected text told asks given accepted is = tt
accepted_of printed request line Usage text told asks given accepted is = absurd (none_apart request line is.no_line asks.asked)
accepted_of printed request line ReadFault text told asks given accepted is = absurd (given_apart request line is.line is.place asks given is.asks is.first)
accepted_of printed request line Refused text told asks given accepted is = absurd (accepted_apart printed.limits request line is.line told asks is.asks accepted is.refuses)
accepted_of printed request line WriteFault text told asks given accepted is = absurd is
accepted_of printed request line NoMemory text told asks given accepted is = absurd is

one_request : (frame : Frame) (request other : Request) → request_in frame ≡ Some request → request_in frame ≡ Some other → request ≡ other
one_request frame request other is also = cc

none_held : (frame : Frame) (request : Request) → request_in frame ≡ None → request_in frame ≡ Some request → ⊥
none_held frame request none is = cc

-- a status of one request of a frame is that of the other
moved : (printed : Printed) (frame : Frame) (request other : Request) (s : Status) (text told : List ℕ) → Requests frame request → Requests frame other
    → IsStatusOf printed request s text told → IsStatusOf printed other s text told
moved printed frame request other s text told requests also status =
    subst (λ (r : Request). IsStatusOf printed r s text told) (one_request frame request other requests.held also.held) status

decided_status : (printed : Printed) (frame : Frame) (request : Request) (s : Status) (text told : List ℕ) → Requests frame request
    → IsStatusOf printed request s text told → IsDecidedBy printed frame (Ran s)
decided_status printed frame request s text told requests status = record {
  malformed = λ none. absurd (none_held frame request none requests.held);
  no_text = λ other is no_text. absurd (no_text (subst (λ (r : Request). IsText r) (one_request frame request other requests.held is) requests.text));
  no_line = λ other also none. inl (ap Ran (no_line_of printed other s text told none (moved printed frame request other s text told requests also status)));
  too_many = λ other line also asked many.
      absurd (few_of printed other s text told (record { line = line; asked = asked; many = many }) (moved printed frame request other s text told requests also status));
  missing = λ other line k also asks first.
      inl (ap Ran (missing_of printed other line k s text told asks first (moved printed frame request other s text told requests also status)));
  refused = λ other line also asks given refused.
      inl (ap Ran (refused_of printed other line s text told asks given refused (moved printed frame request other s text told requests also status)));
  accepted = λ other line also asks given accepted.
      inl (accepted_of printed other line s text told asks given accepted (moved printed frame request other s text told requests also status));
}

decided_memory : (printed : Printed) (frame : Frame) → IsDecidedBy printed frame (Ran NoMemory)
decided_memory printed frame = record {
  malformed = λ none. inr refl;
  no_text = λ request is no_text. inr refl;
  no_line = λ request requests none. inr refl;
  too_many = λ request line requests asked many. inr refl;
  missing = λ request line k requests asks first. inr refl;
  refused = λ request line requests asks given refused. inr refl;
  accepted = λ request line requests asks given accepted. inr refl;
}

decided_run : (printed : Printed) (frame : Frame) (s : Status) (text told : List ℕ) → IsRunOf printed frame s text told → IsDecidedBy printed frame (Ran s)
decided_run printed frame Done text told (request, requests, status) = decided_status printed frame request Done text told requests status
decided_run printed frame Rejected text told (request, requests, status) = decided_status printed frame request Rejected text told requests status
decided_run printed frame Usage text told (request, requests, status) = decided_status printed frame request Usage text told requests status
decided_run printed frame ReadFault text told (request, requests, status) = decided_status printed frame request ReadFault text told requests status
decided_run printed frame Refused text told (request, requests, status) = decided_status printed frame request Refused text told requests status
decided_run printed frame WriteFault text told (request, requests, status) = absurd status
decided_run printed frame NoMemory text told memory = decided_memory printed frame

decided_no_text : (printed : Printed) (frame : Frame) (request : Request) → request_in frame ≡ Some request → (IsText request → ⊥) → IsDecidedBy printed frame NoText
decided_no_text printed frame request is no_text =
    let apart : (other : Request) → Requests frame other → ⊥ = λ other also.
    no_text (subst (λ (r : Request). IsText r) (one_request frame other request also.held is) also.text) in
    record {
      malformed = λ none. absurd (none_held frame request none is);
      no_text = λ other held no. inl refl;
      no_line = λ other also none. absurd (apart other also);
      too_many = λ other line also asked many. absurd (apart other also);
      missing = λ other line k also asks first. absurd (apart other also);
      refused = λ other line also asks given refused. absurd (apart other also);
      accepted = λ other line also asks given accepted. absurd (apart other also);
    }

decided_none : (printed : Printed) (frame : Frame) → request_in frame ≡ None → IsDecidedBy printed frame Malformed
decided_none printed frame none = record {
  malformed = λ also. inl refl;
  no_text = λ other is no. absurd (none_held frame other none is);
  no_line = λ other also no_line. absurd (none_held frame other none also.held);
  too_many = λ other line also asked many. inl refl;
  missing = λ other line k also asks first. absurd (none_held frame other none also.held);
  refused = λ other line also asks given refused. absurd (none_held frame other none also.held);
  accepted = λ other line also asks given accepted. absurd (none_held frame other none also.held);
}

decided_many : (printed : Printed) (frame : Frame) (request : Request) → Requests frame request → HasTooMany request → IsDecidedBy printed frame Malformed
decided_many printed frame request requests many =
    let over : (other : Request) → Requests frame other → HasTooMany other = λ other also.
    subst (λ (r : Request). HasTooMany r) (one_request frame request other requests.held also.held) many in
    record {
      malformed = λ none. inl refl;
      no_text = λ other is no. absurd (no (subst (λ (r : Request). IsText r) (one_request frame request other requests.held is) requests.text));
      no_line = λ other also none. absurd (none_apart other (over other also).line none (over other also).asked);
      too_many = λ other line also asked too_many. inl refl;
      missing = λ other line k also asks first. absurd (many_apart other line (over other also) asks);
      refused = λ other line also asks given refused. absurd (many_apart other line (over other also) asks);
      accepted = λ other line also asks given accepted. absurd (many_apart other line (over other also) asks);
    }

-- the frame decides the ending, by the causes of the endings
pub decided : (printed : Printed) (frame : Frame) (ending : Ending) (text told : List ℕ) → IsEndingOf printed frame ending text told → IsDecidedBy printed frame ending
decided printed frame (Ran s) text told run = decided_run printed frame s text told run
decided printed frame NoText text told (none, silent, quiet) = decided_no_text printed frame none.request none.held none.no_text
decided printed frame Malformed text told (inl none, silent, quiet) = decided_none printed frame none
decided printed frame Malformed text told (inr (request, requests, many), silent, quiet) = decided_many printed frame request requests many
