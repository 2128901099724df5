-- What a run of panels over files that are always read says, as the front has it, and that none rejects.
use Rattle.std.proofs.Common.{◌≡◌, ◌≢◌, ◌⊎◌, ℕ, List, Option, Some, None, inl, inr, refl, sym, subst, arith, false, ⊎_elim}
use Rattle.rp_outside.specs.Faults.{HasRisen}
use Rattle.rp_outside.specs.Known.{Grows, GrowsByPrefix, Stays}
use Rattle.rp_frame.specs.Frames.{Frame}
use Rattle.rp_guide.specs.Gains.{Gains, SinkChange}
use Rattle.rp_front.specs.Calls.{AnswersUsage, IsWritten, TellsWhy}
use Rattle.rp_front.specs.Contents as over
use Rattle.rp_front.specs.Endings.{IsEnd, IsSilent}
use Rattle.rp_front.specs.Gains.{GainsBoth}
use Rattle.rp_front.specs.declared.status.Status.TheVariants as front
use Rattle.rp_panel_run.proofs.FrontLemmas.{answers_front, refuses_front}
use Rattle.rp_panel_run.specs.Endings.{AnswersWith, Files, IsUnread, RefusesWith}
use Rattle.rp_panel_run.specs.Front.{front_status, panels}
use Rattle.rp_panel_run.specs.Questions.{Asking}
use Rattle.rp_panel_run.specs.Told.{memory_line, usage_line, write_line}
use Rattle.rp_panel_run.specs.declared.status.Status.{Status as Own}
use Rattle.rp_panel_run.specs.declared.status.Status.TheVariants.{Done, Usage, ReadFault, Refused, WriteFault, NoMemory}
use Rattle.rp_front_call.specs.CallEndings.{EndsSo, IsEndingOf}
use Rattle.rp_front_call.specs.declared.ending.Ending.{Ending}
use Rattle.rp_front_call.specs.declared.ending.Ending.TheVariants.{Ran}

none_risen : HasRisen 0 0 → ⊥
none_risen risen = ⊎_elim (λ less. omega (arith, less)) (λ past. omega (arith, past)) risen

-- no count of faults rises where all are none
pub unread_risen : (a : Asking) (files : Files) (line : List ℕ) → IsUnread a files (λ name. 0) (λ name. 0) line → HasRisen 0 0
unread_risen a files line (inl unread) = unread.risen
unread_risen a files line (inr new) = new.unread.risen

ended : (s : Own) → IsEnd (front_status s) → s ≡ Done
ended Done ends = refl
ended Usage ends = absurd ends
ended ReadFault ends = absurd ends
ended Refused ends = absurd ends
ended WriteFault ends = absurd ends
ended NoMemory ends = absurd ends

cut : (s : Own) → front_status s ≡ front.WriteFault → s ≡ WriteFault
cut Done is = cc is
cut Usage is = cc is
cut ReadFault is = cc is
cut Refused is = cc is
cut WriteFault is = refl
cut NoMemory is = cc is

used : (s : Own) → front_status s ≡ front.Usage → s ≡ Usage
used Done is = cc is
used Usage is = refl
used ReadFault is = cc is
used Refused is = cc is
used WriteFault is = cc is
used NoMemory is = cc is

-- words of a call that are none end with the usage, or memory runs out
pub words_front : (asked : Option Asking) (s : Own) → (s ≡ Usage → asked ≡ None)
    → (s ≢ Usage → s ≢ NoMemory → (a : Asking) × (asked ≡ Some a)) → AnswersUsage asked (front_status s)
words_front asked s usage some = record { usage = λ is. usage (used s is); no_line = λ none. no_line s some none }
  where
    no_line : (q : Own) → (q ≢ Usage → q ≢ NoMemory → (a : Asking) × (asked ≡ Some a)) → asked ≡ None
        → (front_status q ≡ front.Usage) ⊎ (front_status q ≡ front.NoMemory)
    no_line Done some none = let (a, is) = some (λ e. cc e) (λ e. cc e) in cc
    no_line Usage some none = inl refl
    no_line ReadFault some none = let (a, is) = some (λ e. cc e) (λ e. cc e) in cc
    no_line Refused some none = let (a, is) = some (λ e. cc e) (λ e. cc e) in cc
    no_line WriteFault some none = let (a, is) = some (λ e. cc e) (λ e. cc e) in cc
    no_line NoMemory some none = inr refl

module _ (files : Files) (asked : Option Asking) (out err : SinkChange) where
  -- the answer
  pub written_front : (s : Own)
      → (s ≡ Done → (a : Asking) × (text : List ℕ) × (told : List ℕ) × (asked ≡ Some a) × AnswersWith a files text told
      × Grows out.old out.new text × Gains err.old err.new err.before err.after told)
      → (s ≡ WriteFault → (a : Asking) × (text : List ℕ) × (told : List ℕ) × (asked ≡ Some a) × AnswersWith a files text told
      × GrowsByPrefix out.old out.new text × HasRisen out.before out.after × GainsBoth err.old err.new err.before err.after told write_line)
      → (s ≢ Done → s ≢ WriteFault → Stays out.old out.new)
      → IsWritten false panels files asked (front_status s) out err
  written_front s written cut_short silent = record {
    answered = λ ends. (
        let done = ended s ends in
        let (a, text, told, is, answers, grows, gains) = written done in
        (text, told, (a, is, subst (λ (q : Own). over.AnswersWith panels files a (front_status q) text told) (sym done) (answers_front a files text told answers)), grows, gains)
        );
    cut_short = λ fault. (
        let (a, text, told, is, answers, grows, risen, gains) = cut_short (cut s fault) in
        (front.Done, text, told, (a, is, answers_front a files text told answers), grows, gains)
        );
    silent = λ quiet. silent (λ done. subst (λ (q : Own). IsSilent (front_status q)) done quiet) (λ fault. subst (λ (q : Own). IsSilent (front_status q)) fault quiet);
    write_counted = λ fault. (cut_short (cut s fault)).6;
  }

module _ (files : Files) (asked : Option Asking) (err : SinkChange) where
  -- why there is none, where no file fails
  pub why_front : (asks : Asking → ℕ → Type 0) (s : Own)
      → (s ≡ Usage → (asked ≡ None) × Gains err.old err.new err.before err.after usage_line)
      → (s ≡ Refused → (a : Asking) × (line : List ℕ) × (asked ≡ Some a) × RefusesWith a files line × Gains err.old err.new err.before err.after line)
      → (s ≡ ReadFault → HasRisen 0 0)
      → (s ≡ NoMemory → Gains err.old err.new err.before err.after memory_line)
      → TellsWhy false panels files (λ file. HasRisen 0 0) asks asked (front_status s) err
  why_front asks Done usage refused read_fault no_memory quiet = absurd quiet
  why_front asks Usage usage refused read_fault no_memory quiet = (usage_line, refl, (usage refl).1)
  why_front asks ReadFault usage refused read_fault no_memory quiet = absurd (none_risen (read_fault refl))
  why_front asks Refused usage refused read_fault no_memory quiet =
      let (a, line, is, refuses, gains) = refused refl in
      (line, (a, is, refuses_front a files line refuses), gains)
  why_front asks WriteFault usage refused read_fault no_memory quiet = absurd quiet
  why_front asks NoMemory usage refused read_fault no_memory quiet = (memory_line, refl, no_memory refl)

-- a call of panels does not reject
pub never_rejected : (frame : Frame) (e : Ending) (output_old output_new : List ℕ) (output_length : ℕ) (told_old told_new : List ℕ) (told_length : ℕ)
    → EndsSo panels frame e output_old output_new output_length told_old told_new told_length → e ≢ Ran front.Rejected
never_rejected frame e output_old output_new output_length told_old told_new told_length ends rejected =
    apart ends.text ends.told (subst (λ (it : Ending). IsEndingOf panels frame it ends.text ends.told) rejected ends.ends)
  where
    apart : (text told : List ℕ) → IsEndingOf panels frame (Ran front.Rejected) text told → ⊥
    apart text told is = let wrong = is.is_status.written.2.0 in cc
