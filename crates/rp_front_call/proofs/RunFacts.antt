-- A run over sinks that took all: what it wrote and told, by its status.
use Rattle.std.proofs.Common.{◌≡◌, ◌≢◌, ◌∙◌, ℕ, false, List, [], Option, Some, None, ⊎_elim, refl, sym, subst, arith}
use Rattle.rp_outside.specs.Faults.{HasRisen}
use Rattle.rp_outside.specs.Known.{Grows, Stays}
use Rattle.rp_outside.specs.SureDesk.{SureState, bytes_or_none}
use Rattle.rp_guide.specs.Gains.{Gains, SinkChange}
use Rattle.rp_front.specs.Calls.{AnswersUsage, IsWritten, TellsWhy}
use Rattle.rp_front.specs.Contents.{AnswersWith, Files, RefusesWith, file_at}
use Rattle.rp_front.specs.Endings.{IsFaultLine}
use Rattle.rp_front.specs.Meaning.{Meaning}
use Rattle.rp_front.specs.declared.status.Status.{Status}
use Rattle.rp_front.specs.declared.status.Status.TheVariants.{Done, Rejected, Usage, ReadFault, Refused, WriteFault, NoMemory}
use Rattle.rp_front_call.specs.InnerEndings.{IsRun, RunWrites, known_in}

none_risen : HasRisen 0 0 → ⊥
none_risen risen = ⊎_elim (λ less. omega (arith, less)) (λ past. omega (arith, past)) risen

grown : (now text : List ℕ) → Grows (Some []) (Some now) text → now ≡ text
grown now text grows = let whole = grows [] refl in cc

stayed : (now : List ℕ) → Stays (Some []) (Some now) → now ≡ []
stayed now stays = let same = stays [] refl in cc

gained : (now text : List ℕ) → Gains (Some []) (Some now) 0 0 text → now ≡ text
gained now text gains = ⊎_elim (λ grows. grown now text grows) (λ part. absurd (none_risen part.1)) gains

-- a sink in memory that took all of this
abbrev pub took : List ℕ → SinkChange
took now = record { old = Some []; new = Some now; before = 0; after = 0 }

module _ (m : Meaning) where
  -- an answer that was written
  written_run : (files : Files) (asked : Option m.Asked) (s : Status) (out err text told : List ℕ) (a : m.Asked) → asked ≡ Some a
      → AnswersWith m files a s text told → Grows (Some []) (Some out) text → Gains (Some []) (Some err) 0 0 told → RunWrites m files asked s out err
  written_run files asked s out err text told a is answers grows gains = record {
    question = a;
    asks = is;
    written = subst (λ (t : List ℕ). AnswersWith m files a s t err) (sym (grown out text grows))
        (subst (λ (t : List ℕ). AnswersWith m files a s text t) (sym (gained err told gains)) answers);
  }

  is_run : (files : Files) (asked : Option m.Asked) (s : Status) (rose : List ℕ → Type 0) (asks : m.Asked → ℕ → Type 0) (out err : List ℕ)
      → AnswersUsage asked s → IsWritten false m files asked s (took out) (took err)
      → TellsWhy false m files rose asks asked s (took err)
      → ((file : List ℕ) → rose file → ⊥) → s ≢ NoMemory → IsRun m files asked s out err
  is_run files asked Done rose asks out err usage written why calm other =
      let (text, told, (a, is, answers), grows, gains) = written.answered tt in
      written_run files asked Done out err text told a is answers grows gains
  is_run files asked Rejected rose asks out err usage written why calm other =
      let (text, told, (a, is, answers), grows, gains) = written.answered tt in
      written_run files asked Rejected out err text told a is answers grows gains
  is_run files asked Usage rose asks out err usage written why calm other =
      let (line, is, gains) = why tt in
      record { no_question = usage.usage refl; silent = stayed out (written.silent tt); tells = gained err line gains ∙ is }
  is_run files asked ReadFault rose asks out err usage written why calm other = absurd (unread (why tt).0 (why tt).1)
    where
      unread : (line : List ℕ) → IsFaultLine m files rose asks asked ReadFault line → ⊥
      unread line (a, k, is, cause, says) = calm (file_at m a k) cause.risen
  is_run files asked Refused rose asks out err usage written why calm other =
      let (line, (a, is, refuses), gains) = why tt in
      record {
        question = a;
        asks = is;
        silent = stayed out (written.silent tt);
        refuses = subst (λ (t : List ℕ). RefusesWith m files a t) (sym (gained err line gains)) refuses;
      }
  is_run files asked WriteFault rose asks out err usage written why calm other = absurd (none_risen (written.write_counted refl))
  is_run files asked NoMemory rose asks out err usage written why calm other = absurd (other refl)

  -- a run over a desk and sinks as they were made, whose sinks took all: what it wrote and told
  pub ended_run : (desk : SureState) (files : List (List ℕ × List ℕ)) (asked : Option m.Asked) (s : Status) (asks : m.Asked → ℕ → Type 0)
      (out_old out err_old err : List ℕ) (out_before out_after err_before err_after : ℕ)
      → desk.files ≡ files → out_old ≡ [] → out_before ≡ 0 → out_after ≡ 0 → err_old ≡ [] → err_before ≡ 0 → err_after ≡ 0 → s ≢ NoMemory
      → AnswersUsage asked s
      → IsWritten false m (λ name. Some (bytes_or_none desk name)) asked s
      (record { old = Some out_old; new = Some out; before = out_before; after = out_after }) (record { old = Some err_old; new = Some err; before = err_before; after = err_after })
      → TellsWhy false m (λ name. Some (bytes_or_none desk name)) (λ file. HasRisen 0 0) asks asked s
      (record { old = Some err_old; new = Some err; before = err_before; after = err_after })
      → IsRun m (known_in files) asked s out err
  ended_run desk files asked s asks out_old out err_old err out_before out_after err_before err_after same no_out from to no_err start end other usage written why =
      subst (λ (given : List (List ℕ × List ℕ)). IsRun m (known_in given) asked s out err) same
      (is_run (λ name. Some (bytes_or_none desk name)) asked s (λ file. HasRisen 0 0) asks out err usage
      (rw (no_out, from, to, no_err, start, end) at written) (rw (no_err, start, end) at why) (λ file up. none_risen up) other)
