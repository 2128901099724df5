-- What a call in memory wrote and told, and what its caller hands on of it.
use Rattle.std.proofs.Common.{◌≡◌, ◌≤◌, ◌⊎◌, ◌∙◌, ◌++◌, ℕ, List, [], ◌∷◌, Option, Some, None, ⊎_elim, inl, inr, refl, sym, subst, ap, arith}
use Rattle.clap.specs.Faults.{fault_of}
use Rattle.rp_outside.specs.Faults.{HasRisen}
use Rattle.rp_outside.specs.Known.{Grows, Stays}
use Rattle.rp_command_line.specs.CommandLine.{Line}
use Rattle.rp_command_line.specs.Commands.{program}
use Rattle.rp_command_line.specs.Words.{denoted_line}
use Rattle.rp_answers.specs.declared.status.Status.{Status}
use Rattle.rp_answers.specs.declared.status.Status.TheVariants.{Done, Rejected, Usage, ReadFault, Refused, WriteFault, NoMemory}
use Rattle.rp_commands.specs.Answers.{AnswersDenotedBy, Files, IsAcceptedBy, IsRefusedBy}
use Rattle.rp_commands.specs.Calls.{AnswersUsage, GivesCheckVerdictBy, IsWrittenBy, TellsWhyBy}
use Rattle.rp_commands.specs.Endings.{IsEnd, IsFaultLineBy, IsSilent, NoneRose, Rose}
use Rattle.rp_commands.specs.FaultLines.{memory_line, write_line}
use Rattle.rp_commands.specs.Gains.{Gains}
use Rattle.rp_commands.specs.Turns.{AsksForFirst}
use Rattle.rp_run_wide.specs.Filling.{as_filled}
use Rattle.rp_guide.specs.Gains.{GainsText, SinkChange}
use Rattle.rp_run_wide.specs.Helping.{AnswersWithHints, DeskChange, as_helped, fit_calls, with_hint}
use Rattle.rp_run_wide.specs.InnerRan.{IsDelivered, LooksOnly, Ran, told_of_all}

none_risen : HasRisen 0 0 → ⊥
none_risen risen = ⊎_elim (λ less. omega (arith, less)) (λ past. omega (arith, past)) risen

grown : (now text : List ℕ) → Grows (Some []) (Some now) text → now ≡ text
grown now text grows = let whole = grows [] refl in cc

gained : (now text : List ℕ) → Gains (Some []) (Some now) 0 0 text → now ≡ text
gained now text gains = ⊎_elim (λ grows. grown now text grows) (λ part. absurd (none_risen part.1)) gains

-- what is told of all commands is the line of the same cause
helped : (files : Files) (rose : List ℕ → Type 0) (asks : Line → ℕ → Type 0) (denoted : Option Line) (s : Status) (told : List ℕ)
    → IsFaultLineBy as_filled files rose asks denoted s told → IsFaultLineBy as_helped files rose asks denoted s (told_of_all s told)
helped files rose asks denoted Done told is = absurd is
helped files rose asks denoted Rejected told is = absurd is
helped files rose asks denoted Usage told is = ap (λ (t : List ℕ). t ++ fit_calls) is
helped files rose asks denoted ReadFault told is = is
helped files rose asks denoted Refused told is = is
helped files rose asks denoted WriteFault told is = is
helped files rose asks denoted NoMemory told is = is

-- sinks in memory that took all
module _ (words : List (List ℕ)) (desk : DeskChange) (s : Status) (text told : List ℕ) where
  fresh : AnswersUsage (denoted_line words) s → (s ≡ Usage → ¬ (fault_of program words ≡ []))
      → IsWrittenBy as_filled desk.bytes (denoted_line words) s (Some []) (Some text) 0 0
      → GivesCheckVerdictBy as_filled.limits desk.bytes (denoted_line words) s
      → TellsWhyBy as_filled desk.bytes (Rose desk.faults desk.faults_after) (AsksForFirst desk.bytes desk.calls desk.calls_after) (denoted_line words) s (Some []) (Some told) 0 0
      → ((line : Line) → denoted_line words ≡ Some line → IsAcceptedBy as_filled.limits desk.bytes line → NoneRose line desk.faults desk.faults_after → ¬ HasRisen 0 0 → IsEnd s ⊎ (s ≡ NoMemory))
      → ((line : Line) → denoted_line words ≡ Some line → IsRefusedBy as_filled.limits desk.bytes line → NoneRose line desk.faults desk.faults_after → (s ≡ Refused) ⊎ (s ≡ NoMemory))
      → Ran words desk s text (told_of_all s told)
  fresh usage clap written verdict why complete refused = record {
    usage = usage;
    refused_by_clap = clap;
    answered = λ end. (let a = written.answered end in subst (λ (t : List ℕ). AnswersDenotedBy as_filled desk.bytes (denoted_line words) s t) (sym (grown text a.0 a.2)) a.1);
    faulted = λ no_end. (let w = why.told no_end in
        helped desk.bytes (Rose desk.faults desk.faults_after) (AsksForFirst desk.bytes desk.calls desk.calls_after) (denoted_line words) s told
        (subst (λ (t : List ℕ). IsFaultLineBy as_filled desk.bytes (Rose desk.faults desk.faults_after) (AsksForFirst desk.bytes desk.calls desk.calls_after) (denoted_line words) s t) (sym (gained told w.0 w.2)) w.1));
    written = λ fault. none_risen (written.write_counted fault);
    verdict = verdict;
    complete = λ line is accepted calm. complete line is accepted calm none_risen;
    refused = refused;
  }

  pub ran : (out_old err_old : List ℕ) (out_before out_after err_before err_after : ℕ)
      → out_old ≡ [] → out_before ≡ 0 → out_after ≡ 0 → err_old ≡ [] → err_before ≡ 0 → err_after ≡ 0
      → AnswersUsage (denoted_line words) s → (s ≡ Usage → ¬ (fault_of program words ≡ []))
      → IsWrittenBy as_filled desk.bytes (denoted_line words) s (Some out_old) (Some text) out_before out_after
      → GivesCheckVerdictBy as_filled.limits desk.bytes (denoted_line words) s
      → TellsWhyBy as_filled desk.bytes (Rose desk.faults desk.faults_after) (AsksForFirst desk.bytes desk.calls desk.calls_after) (denoted_line words) s (Some err_old) (Some told) err_before err_after
      → ((line : Line) → denoted_line words ≡ Some line → IsAcceptedBy as_filled.limits desk.bytes line → NoneRose line desk.faults desk.faults_after → ¬ HasRisen out_before out_after → IsEnd s ⊎ (s ≡ NoMemory))
      → ((line : Line) → denoted_line words ≡ Some line → IsRefusedBy as_filled.limits desk.bytes line → NoneRose line desk.faults desk.faults_after → (s ≡ Refused) ⊎ (s ≡ NoMemory))
      → Ran words desk s text (told_of_all s told)
  ran out_old err_old out_before out_after err_before err_after no_out from to no_err start end usage clap written verdict why complete refused =
      fresh usage clap (rw (no_out, from, to) at written) verdict (rw (no_err, start, end) at why) (rw (from, to) at complete) refused

-- an end is not silent
silent_no_end : (s : Status) → IsSilent s → ¬ IsEnd s
silent_no_end Done quiet end = quiet
silent_no_end Rejected quiet end = quiet
silent_no_end Usage quiet end = end
silent_no_end ReadFault quiet end = end
silent_no_end Refused quiet end = end
silent_no_end WriteFault quiet end = end
silent_no_end NoMemory quiet end = end

ends_so : (s other : Status) → IsEnd s → s ≡ other → IsEnd other
ends_so s other end is = subst IsEnd is end

module _ (words : List (List ℕ)) (desk : DeskChange) (s : Status) (text told : List ℕ) (looks : LooksOnly words desk) (out err : SinkChange) where
  -- as it ended in memory
  same : Ran words desk s text told → IsDelivered s text told s out err → AnswersWithHints words desk s out err
  same r d = record {
    usage = r.usage;
    refused_by_clap = r.refused_by_clap;
    shapes = looks.shapes;
    written = record {
      answered = λ end. (text, r.answered end, (d.whole end refl).0);
      cut_short = λ fault. absurd (r.written fault);
      silent = λ quiet. (d.faulted (silent_no_end s quiet)).1;
      write_counted = λ fault. absurd (r.written fault);
    };
    verdict = r.verdict;
    why = record {
      noted = λ end. (text, r.answered end, (d.whole end refl).1);
      told = λ no_end. (told, r.faulted no_end, (d.faulted no_end).2);
    };
    turns = looks.turns;
    names = looks.names;
    complete = λ line is accepted calm not_risen. r.complete line is accepted calm;
    refused = r.refused;
    stays = record { bytes_stay = looks.bytes_stay; faults_of_files = looks.faults_of_files; faults_of_out = d.faults_of_out; faults_of_err = d.faults_of_err };
  }

  -- an answer that could not be written whole
  cut : Ran words desk s text told → IsEnd s → IsDelivered s text told WriteFault out err → AnswersWithHints words desk WriteFault out err
  cut r end d =
      let p = d.part end refl in
      let a = r.answered end in
      record {
        usage = record { usage = λ is. absurd cc; no_line = λ none. (let wrong = sym a.1 ∙ none in absurd cc) };
        refused_by_clap = λ is. absurd cc;
        shapes = looks.shapes;
        written = record {
          answered = λ ended. absurd ended;
          cut_short = λ fault. (s, text, a, p.0);
          silent = λ quiet. absurd quiet;
          write_counted = λ fault. p.1;
        };
        verdict = record {
          rejected = λ is. absurd cc;
          never_done = λ line is must done. cc;
          never_rejected = λ line is must rejected. cc;
        };
        why = record {
          noted = λ ended. absurd ended;
          told = λ no_end. (write_line, refl, p.2);
        };
        turns = looks.turns;
        names = looks.names;
        complete = λ line is accepted calm not_risen. absurd (not_risen p.1);
        refused = λ line is refused calm.
            absurd (⊎_elim (λ other. ends_so s Refused end other) (λ other. ends_so s NoMemory end other) (r.refused line is refused calm));
        stays = record { bytes_stay = looks.bytes_stay; faults_of_files = looks.faults_of_files; faults_of_out = d.faults_of_out; faults_of_err = d.faults_of_err };
      }

  pub delivered : (result : Status) → Ran words desk s text told → IsDelivered s text told result out err → AnswersWithHints words desk result out err
  delivered result r d = elim d.either [
    | inl is ↦ subst (λ (v : Status). AnswersWithHints words desk v out err) (sym is) (same r (subst (λ (v : Status). IsDelivered s text told v out err) is d))
    | inr fault ↦ subst (λ (v : Status). AnswersWithHints words desk v out err) (sym fault.1) (cut r fault.0 (subst (λ (v : Status). IsDelivered s text told v out err) fault.1 d))
  ]

-- memory ran out before anything was handed on
pub out_of_memory : (words : List (List ℕ)) (desk : DeskChange) (out err : SinkChange) → LooksOnly words desk → Stays out.old out.new → out.before ≡ out.after
    → GainsText err (with_hint NoMemory memory_line) → err.before ≤ err.after → AnswersWithHints words desk NoMemory out err
out_of_memory words desk out err looks stays calm gains rises = record {
  usage = record { usage = λ is. absurd cc; no_line = λ none. inr refl };
  refused_by_clap = λ is. absurd cc;
  shapes = looks.shapes;
  written = record {
    answered = λ ended. absurd ended;
    cut_short = λ fault. absurd cc;
    silent = λ quiet. stays;
    write_counted = λ fault. absurd cc;
  };
  verdict = record {
    rejected = λ is. absurd cc;
    never_done = λ line is must done. cc;
    never_rejected = λ line is must rejected. cc;
  };
  why = record {
    noted = λ ended. absurd ended;
    told = λ no_end. (memory_line, refl, gains);
  };
  turns = looks.turns;
  names = looks.names;
  complete = λ line is accepted calm not_risen. inr refl;
  refused = λ line is refused calm. inr refl;
  stays = record { bytes_stay = looks.bytes_stay; faults_of_files = looks.faults_of_files; faults_of_out = omega (arith, calm); faults_of_err = rises };
}
