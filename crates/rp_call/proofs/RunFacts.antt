-- A run over sinks that took all: what it wrote and told, by its status.
use Rattle.std.proofs.Common.{◌≡◌, ◌∙◌, ℕ, List, [], Option, Some, ⊎_elim, refl, sym, subst, arith}
use Rattle.rp_outside.specs.Faults.{HasRisen}
use Rattle.rp_outside.specs.Known.{Grows, Stays}
use Rattle.rp_command_line.specs.CommandLine.{Line, file_at}
use Rattle.rp_answers.specs.Printed.{Printed}
use Rattle.rp_answers.specs.declared.status.Status.{Status}
use Rattle.rp_answers.specs.declared.status.Status.TheVariants.{Done, Rejected, Usage, ReadFault, Refused, WriteFault, NoMemory}
use Rattle.rp_outside.specs.SureDesk.{SureState}
use Rattle.rp_commands.specs.Answers.{AnswersLineBy, Files, RefusesWithBy, all_known}
use Rattle.rp_commands.specs.Calls.{AnswersUsage, IsWrittenBy, TellsWhyBy}
use Rattle.rp_commands.specs.Endings.{IsFaultLineBy}
use Rattle.rp_commands.specs.Gains.{Gains}
use Rattle.rp_call.specs.RunEndings.{IsRun, known_in}

pub none_risen : HasRisen 0 0 → ⊥
none_risen risen = ⊎_elim (λ less. omega (arith, less)) (λ past. omega (arith, past)) risen

grown : (now text : List ℕ) → Grows (Some []) (Some now) text → now ≡ text
grown now text grows = let whole = grows [] refl in cc

stayed : (now : List ℕ) → Stays (Some []) (Some now) → now ≡ []
stayed now stays = let same = stays [] refl in cc

gained : (now text : List ℕ) → Gains (Some []) (Some now) 0 0 text → now ≡ text
gained now text gains = ⊎_elim (λ grows. grown now text grows) (λ part. absurd (none_risen part.1)) gains

is_run : (printed : Printed) (files : Files) (denoted : Option Line) (s : Status) (rose : List ℕ → Type 0) (asks : Line → ℕ → Type 0) (out err : List ℕ)
    → AnswersUsage denoted s → IsWrittenBy printed files denoted s (Some []) (Some out) 0 0
    → TellsWhyBy printed files rose asks denoted s (Some []) (Some err) 0 0
    → ((file : List ℕ) → rose file → ⊥) → (s ≡ NoMemory → ⊥) → IsRun printed files denoted s out err
is_run printed files denoted Done rose asks out err usage written why calm other =
    let answered = written.answered tt in
    record {
      line = answered.1.0;
      asked = answered.1.1;
      answers = subst (λ (t : List ℕ). AnswersLineBy printed files answered.1.0 Done t) (sym (grown out answered.0 answered.2)) answered.1.2;
      quiet = stayed err (why.quiet tt);
    }
is_run printed files denoted Rejected rose asks out err usage written why calm other =
    let answered = written.answered tt in
    record {
      line = answered.1.0;
      asked = answered.1.1;
      answers = subst (λ (t : List ℕ). AnswersLineBy printed files answered.1.0 Rejected t) (sym (grown out answered.0 answered.2)) answered.1.2;
      quiet = stayed err (why.quiet tt);
    }
is_run printed files denoted Usage rose asks out err usage written why calm other =
    let told = why.told (λ end. end) in
    record { no_line = usage.usage refl; silent = stayed out (written.silent tt); tells = gained err told.0 told.2 ∙ told.1 }
is_run printed files denoted ReadFault rose asks out err usage written why calm other = absurd (unread (why.told (λ end. end)).1)
  where
    unread : {text : List ℕ} → IsFaultLineBy printed files rose asks denoted ReadFault text → ⊥
    unread (line, k, is, within, up, says, first) = calm (file_at line k) up
is_run printed files denoted Refused rose asks out err usage written why calm other =
    let told = why.told (λ end. end) in
    record {
      line = told.1.0;
      asked = told.1.1;
      silent = stayed out (written.silent tt);
      refuses = subst (λ (t : List ℕ). RefusesWithBy printed.limits files told.1.0 t) (sym (gained err told.0 told.2)) told.1.2;
    }
is_run printed files denoted WriteFault rose asks out err usage written why calm other = absurd (none_risen (written.write_counted refl))
is_run printed files denoted NoMemory rose asks out err usage written why calm other = absurd (other refl)

-- a run over a desk and sinks as they were made, whose sinks took all: what it wrote and told
pub ended_run : (printed : Printed) (desk : SureState) (files : List (List ℕ × List ℕ)) (denoted : Option Line) (s : Status) (asks : Line → ℕ → Type 0)
    (out_old out err_old err : List ℕ) (out_before out_after err_before err_after : ℕ)
    → desk.files ≡ files → out_old ≡ [] → out_before ≡ 0 → out_after ≡ 0 → err_old ≡ [] → err_before ≡ 0 → err_after ≡ 0 → (s ≡ NoMemory → ⊥)
    → AnswersUsage denoted s → IsWrittenBy printed (all_known desk) denoted s (Some out_old) (Some out) out_before out_after
    → TellsWhyBy printed (all_known desk) (λ file. HasRisen 0 0) asks denoted s (Some err_old) (Some err) err_before err_after
    → IsRun printed (known_in files) denoted s out err
ended_run printed desk files denoted s asks out_old out err_old err out_before out_after err_before err_after same no_out from to no_err start end other usage written why =
    subst (λ (given : List (List ℕ × List ℕ)). IsRun printed (known_in given) denoted s out err) same
    (is_run printed (all_known desk) denoted s (λ file. HasRisen 0 0) asks out err usage
    (rw (no_out, from, to) at written) (rw (no_err, start, end) at why) (λ file up. none_risen up) other)
