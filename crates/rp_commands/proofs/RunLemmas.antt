-- What a cause tells of what was asked, when there is none, and that no line is both answered and refused.
use Rattle.std.proofs.Common.{◌≡◌, ◌∙◌, ◌⊎◌, ◌<◌, inl, inr, List, [], length, ℕ, Option, Some, None, Ok, Err, arith, sym, subst, refl}
use Rattle.std.specs.List.{Contains}
use Rattle.std.proofs.lemmas.List.Elements.{Contains-get_or}
use Rattle.rp_command_line.specs.CommandLine.{Line, file_at, files_of}
use Rattle.rp_command_line.specs.CommandLine.{Arguments}
use Rattle.rp_command_line.specs.declared.commands.Command.{Command}
use Rattle.rp_command_line.specs.declared.commands.Command.TheVariants.{Check, CheckRandom}
use Rattle.rp_patch.proofs.Determined.{same_list}
use Rattle.rp_types.proofs.Determined.{types_once}
use Rattle.rp_commands.proofs.OneAnswer.{denotes_one}
use Rattle.rp_commands.specs.Contents.{Contents, DenotesBy}
use Rattle.rp_commands.specs.Contents as contents
use Rattle.rp_agreement.proofs.OneFinding.{only_accepted}
use Rattle.rp_check.specs.CheckVerdict.{IsCheckVerdict}
use Rattle.rp_agreement.proofs.OneRandomFinding.{only_accepted_on_patches}
use Rattle.rp_answers.proofs.OneWithinFinding.{only_accepted_within}
use Rattle.rp_patch.specs.Patches.{PatchList}
use Rattle.rp_types.specs.declared.types.Rational.{Rational}
use Rattle.rp_check.specs.declared.verdict.Verdict.{Verdict}
use Rattle.rp_check.specs.declared.verdict.Verdict.TheVariants.{Accepted, Rejected}
use Rattle.rp_evidence.specs.Input.{input_of_table}
use Rattle.rp_evidence.specs.declared.certificate.Certificate.{Certificate}
use Rattle.rp_evidence.specs.declared.certificate.Item.{Item}
use Rattle.rp_limits.specs.declared.generated.TheConstants.{STEPS}
use Rattle.rp_table.specs.Tables.{Observations}
use Rattle.rp_commands.specs.Answers.{Files, AnswersBy, AnswersLineBy, IsAcceptedBy, IsAcceptedOver, IsRefusedBy, IsRejectedOver, MayBeBy, MustBeBy}
use Rattle.rp_answers.specs.Printed.{Printed}
use Rattle.rp_answers.specs.CheckText.{IsChoicesVerdict, IsRandomCheck, IsTableCheck, check_status as verdict_status}
use Rattle.rp_outside.specs.Faults.{HasRisen}
use Rattle.rp_outside.specs.Known.{Grows, GrowsByPrefix}
use Rattle.rp_commands.specs.Calls.{AnswersUsage, IsWrittenBy}
use Rattle.rp_commands.specs.Endings.{IsEnd, IsSilent, Rose, NoneRose}
use Rattle.rp_commands.specs.InnerCauses.{status_of_cause, IsCause}
use Rattle.rp_answers.specs.declared.choice_limits.ChoiceLimits.{ChoiceLimits}
use Rattle.rp_answers.specs.declared.status.Status.{Status}
use Rattle.rp_answers.specs.declared.status.Status.TheVariants as status
use Rattle.rp_commands.specs.declared.files.Cause.{Cause}
use Rattle.rp_commands.specs.declared.files.Cause.TheVariants.{Read, Refused, NoMemory}

-- a file of a line is among its files
its_file : (line : Line) (k : ℕ) → k < length (files_of line) → Contains (files_of line) (file_at line k)
its_file line k within = Contains-get_or (files_of line) k [] within

-- no content of a line's files is both taken and refused
denotes_apart : (limits : ChoiceLimits) (line : Line) (bytes : ℕ → List ℕ) (held : Contents) (text : List ℕ) → DenotesBy limits line bytes (Ok held) → DenotesBy limits line bytes (Err text) → ⊥
denotes_apart limits line bytes held text taken refused =
    let wrong : Ok held ≡ Err text = denotes_one same_list types_once limits line bytes (Ok held) (Err text) taken refused in
    cc

-- a line that is answered is not refused
pub not_both : (printed : Printed) (files : Files) (asked : Option Line) (line other : Line) (s : Status) (text : List ℕ) → asked ≡ Some line → asked ≡ Some other
    → AnswersLineBy printed files line s text → IsRefusedBy printed.limits files other → ⊥
not_both printed files asked line other s text is also answers refused =
    let same : line ≡ other = cc in
    let had = answers.1 in
    let err = subst (λ (l : Line). IsRefusedBy printed.limits files l) (sym same) refused had.0 had.1 in
    denotes_apart printed.limits line had.0 answers.0 err.0 had.2 err.1

-- a cause of a line that nothing refuses, while no count of its files rose, is want of memory
pub cause_of_accepted : (limits : ChoiceLimits) (files : Files) (before after : List ℕ → ℕ) (asks : Line → ℕ → Type 0) (asked : Option Line) (line other : Line) (why : Cause) → asked ≡ Some line → asked ≡ Some other
    → IsAcceptedBy limits files other → NoneRose other before after → IsCause limits files (Rose before after) asks line why → status_of_cause why ≡ status.NoMemory
cause_of_accepted limits files before after asks asked line other (Read file) is also accepted calm (k, within, its, up, once) =
    let same : line ≡ other = cc in
    absurd (calm file.now (subst (λ (l : Line). Contains (files_of l) file.now) same (subst (Contains (files_of line)) (sym its) (its_file line k within))) up)
cause_of_accepted limits files before after asks asked line other (Refused text) is also accepted calm (bytes, are, refused) =
    let same : line ≡ other = cc in
    let ok = subst (λ (l : Line). IsAcceptedBy limits files l) (sym same) accepted bytes are in
    absurd (denotes_apart limits line bytes ok.0 text.items ok.1 refused)
cause_of_accepted limits files before after asks asked line other NoMemory is also accepted calm none = refl

-- a cause while no count of the line's files rose is a refusal or want of memory
pub cause_of_calm : (limits : ChoiceLimits) (files : Files) (before after : List ℕ → ℕ) (asks : Line → ℕ → Type 0) (asked : Option Line) (line other : Line) (why : Cause) → asked ≡ Some line → asked ≡ Some other
    → NoneRose other before after → IsCause limits files (Rose before after) asks line why → (status_of_cause why ≡ status.Refused) ⊎ (status_of_cause why ≡ status.NoMemory)
cause_of_calm limits files before after asks asked line other (Read file) is also calm (k, within, its, up, once) =
    let same : line ≡ other = cc in
    absurd (calm file.now (subst (λ (l : Line). Contains (files_of l) file.now) same (subst (Contains (files_of line)) (sym its) (its_file line k within))) up)
cause_of_calm limits files before after asks asked line other (Refused text) is also calm refused = inl refl
cause_of_calm limits files before after asks asked line other NoMemory is also calm none = inr refl

-- ---- the checker's verdict

-- what is rejected ends so, and is so
check_rejected : (table : Observations) (certificate : Certificate) (text : List ℕ) → IsTableCheck table certificate status.Rejected text → IsRejectedOver (contents.TableAndCertificate table certificate)
check_rejected table certificate text answers = go answers.verdict answers.found answers.ends
  where
    go : (verdict : Verdict) → IsCheckVerdict (input_of_table table) certificate.levels certificate.items verdict → status.Rejected ≡ verdict_status verdict → IsRejectedOver (contents.TableAndCertificate table certificate)
    go Accepted found ends = absurd cc
    go (Rejected item reason place) found ends = (item, reason, place, found)

random_check_rejected : (patches : PatchList) (types : Option (List Rational)) (certificate : Certificate) (text : List ℕ) → IsRandomCheck patches types certificate status.Rejected text
    → IsRejectedOver (contents.ChoicesAndCertificate patches types certificate)
random_check_rejected patches types certificate text answers = go answers.verdict answers.found answers.ends
  where
    go : (verdict : Verdict) → IsChoicesVerdict patches types certificate.items verdict → status.Rejected ≡ verdict_status verdict → IsRejectedOver (contents.ChoicesAndCertificate patches types certificate)
    go Accepted found ends = absurd cc
    go (Rejected item reason place) found ends = (item, reason, place, found)

done_apart_rejected : status.Rejected ≡ status.Done → ⊥
done_apart_rejected wrong = cc

pub answer_rejected : (printed : Printed) (command : Command) (arguments : Arguments) (held : Contents) (text : List ℕ) → AnswersBy printed command arguments held status.Rejected text → IsRejectedOver held
answer_rejected printed Check arguments (contents.TableAndCertificate table certificate) text answers = check_rejected table certificate text answers
answer_rejected printed CheckRandom arguments (contents.ChoicesAndCertificate patches types certificate) text answers = random_check_rejected patches types certificate text answers
answer_rejected printed _ arguments _ text answers = absurd (done_apart_rejected answers.0)

-- what is accepted of choices has no other verdict
only_accepted_of_choices : (patches : PatchList) (types : Option (List Rational)) (items : List Item) (verdict : Verdict) → IsChoicesVerdict patches types items Accepted → IsChoicesVerdict patches types items verdict
    → verdict ≡ Accepted
only_accepted_of_choices patches (Some types) items verdict = only_accepted_on_patches patches items verdict
only_accepted_of_choices patches None items verdict = only_accepted_within patches items STEPS verdict

-- what is accepted is not rejected
pub accepted_apart : (held : Contents) → IsAcceptedOver held → IsRejectedOver held → ⊥
accepted_apart (contents.TableAndCertificate table certificate) accepted (item, reason, place, found) =
    let wrong = only_accepted (input_of_table table) certificate.levels certificate.items (Rejected item reason place) accepted found in cc
accepted_apart (contents.ChoicesAndCertificate patches types certificate) accepted (item, reason, place, found) =
    let wrong = only_accepted_of_choices patches types certificate.items (Rejected item reason place) accepted found in cc
accepted_apart _ accepted rejected = accepted

-- an answer that is done is no rejection
check_done : (table : Observations) (certificate : Certificate) (text : List ℕ) → IsTableCheck table certificate status.Done text → IsAcceptedOver (contents.TableAndCertificate table certificate)
check_done table certificate text answers = go answers.verdict answers.found answers.ends
  where
    go : (verdict : Verdict) → IsCheckVerdict (input_of_table table) certificate.levels certificate.items verdict → status.Done ≡ verdict_status verdict → IsAcceptedOver (contents.TableAndCertificate table certificate)
    go Accepted found ends = found
    go (Rejected item reason place) found ends = absurd cc

random_check_done : (patches : PatchList) (types : Option (List Rational)) (certificate : Certificate) (text : List ℕ) → IsRandomCheck patches types certificate status.Done text
    → IsAcceptedOver (contents.ChoicesAndCertificate patches types certificate)
random_check_done patches types certificate text answers = go answers.verdict answers.found answers.ends
  where
    go : (verdict : Verdict) → IsChoicesVerdict patches types certificate.items verdict → status.Done ≡ verdict_status verdict → IsAcceptedOver (contents.ChoicesAndCertificate patches types certificate)
    go Accepted found ends = found
    go (Rejected item reason place) found ends = absurd cc

pub done_apart : (printed : Printed) (command : Command) (arguments : Arguments) (held : Contents) (text : List ℕ) → AnswersBy printed command arguments held status.Done text → IsRejectedOver held → ⊥
done_apart printed Check arguments (contents.TableAndCertificate table certificate) text answers rejected =
    accepted_apart (contents.TableAndCertificate table certificate) (check_done table certificate text answers) rejected
done_apart printed CheckRandom arguments (contents.ChoicesAndCertificate patches types certificate) text answers rejected =
    accepted_apart (contents.ChoicesAndCertificate patches types certificate) (random_check_done patches types certificate text answers) rejected
done_apart printed _ arguments (contents.TableAndCertificate table certificate) text answers rejected = answers.1
done_apart printed _ arguments (contents.ChoicesAndCertificate patches types certificate) text answers rejected = answers.1
done_apart printed _ arguments _ text answers rejected = rejected

-- the same of lines that were asked
pub line_rejected : (printed : Printed) (files : Files) (asked : Option Line) (line : Line) (s : Status) (text : List ℕ) → asked ≡ Some line → AnswersLineBy printed files line s text → s ≡ status.Rejected
    → (other : Line) × (asked ≡ Some other) × MayBeBy printed.limits IsRejectedOver files other
line_rejected printed files asked line s text is (held, has, answers) rejected =
    (line, is, (held, has, answer_rejected printed line.command line.arguments held text (subst (λ t. AnswersBy printed line.command line.arguments held t text) rejected answers)))

pub done_line_apart : (printed : Printed) (files : Files) (asked : Option Line) (line other : Line) (s : Status) (text : List ℕ) → asked ≡ Some line → asked ≡ Some other
    → AnswersLineBy printed files line s text → MustBeBy printed.limits IsRejectedOver files other → s ≡ status.Done → ⊥
done_line_apart printed files asked line other s text is also (held, (bytes, are, denoted, of_files), answers) must done =
    let same : line ≡ other = cc in
    let rejected = subst (λ (l : Line). MustBeBy printed.limits IsRejectedOver files l) (sym same) must bytes are held denoted in
    done_apart printed line.command line.arguments held text (subst (λ t. AnswersBy printed line.command line.arguments held t text) done answers) rejected

pub rejected_line_apart : (printed : Printed) (files : Files) (asked : Option Line) (line other : Line) (s : Status) (text : List ℕ) → asked ≡ Some line → asked ≡ Some other
    → AnswersLineBy printed files line s text → MustBeBy printed.limits IsAcceptedOver files other → s ≡ status.Rejected → ⊥
rejected_line_apart printed files asked line other s text is also (held, (bytes, are, denoted, of_files), answers) must rejected =
    let same : line ≡ other = cc in
    let accepted = subst (λ (l : Line). MustBeBy printed.limits IsAcceptedOver files l) (sym same) must bytes are held denoted in
    accepted_apart held accepted (answer_rejected printed line.command line.arguments held text (subst (λ t. AnswersBy printed line.command line.arguments held t text) rejected answers))

verdict_ends : (verdict : Verdict) → IsEnd (verdict_status verdict)
verdict_ends Accepted = tt
verdict_ends (Rejected item reason place) = tt

-- an answer ends with one of two statuses
pub answer_ends : (printed : Printed) (command : Command) (arguments : Arguments) (held : Contents) (s : Status) (text : List ℕ) → AnswersBy printed command arguments held s text → IsEnd s
answer_ends printed Check arguments (contents.TableAndCertificate table certificate) s text answers = rw answers.ends (verdict_ends answers.verdict)
answer_ends printed CheckRandom arguments (contents.ChoicesAndCertificate patches types certificate) s text answers = rw answers.ends (verdict_ends answers.verdict)
answer_ends printed _ arguments _ s text answers = rw answers.0 tt

pub line_ends : (printed : Printed) (files : Files) (line : Line) (s : Status) (text : List ℕ) → AnswersLineBy printed files line s text → IsEnd s
line_ends printed files line s text answers = answer_ends printed line.command line.arguments answers.0 s text answers.2

-- a status that is an end is not silent
end_not_silent : (s : Status) → IsEnd s → IsSilent s → ⊥
end_not_silent status.Done ends silent = silent
end_not_silent status.Rejected ends silent = silent
end_not_silent _ ends silent = ends

-- what was written of the answer to a line: all of it, by its status, or a front of it, by the fault
pub answer_written : (printed : Printed) (files : Files) (asked : Option Line) (line : Line) (s result : Status) (text : List ℕ) (old new : Option (List ℕ)) (before after : ℕ) → asked ≡ Some line
    → AnswersLineBy printed files line s text → (result ≡ s) ⊎ (result ≡ status.WriteFault) → (IsEnd result → Grows old new text)
    → (result ≡ status.WriteFault → GrowsByPrefix old new text × HasRisen before after) → IsWrittenBy printed files asked result old new before after
answer_written printed files asked line s result text old new before after is answers (inl same) whole part = record {
  answered = λ ends. (text, (line, is, subst (λ t. AnswersLineBy printed files line t text) (sym same) answers), whole ends);
  cut_short = λ fault. (s, text, (line, is, answers), (part fault).0);
  silent = λ silent. absurd (end_not_silent s (line_ends printed files line s text answers) (subst IsSilent same silent));
  write_counted = λ fault. (part fault).1;
}
answer_written printed files asked line s result text old new before after is answers (inr cut) whole part = record {
  answered = λ ends. absurd (subst IsEnd cut ends);
  cut_short = λ fault. (s, text, (line, is, answers), (part fault).0);
  silent = λ silent. absurd (subst IsSilent cut silent);
  write_counted = λ fault. (part fault).1;
}

-- an answer is no usage, and the words that it answers are a line
pub no_usage : (s result : Status) → IsEnd s → (result ≡ s) ⊎ (result ≡ status.WriteFault) → result ≡ status.Usage → ⊥
no_usage s result ends (inl same) used = subst IsEnd (sym same ∙ used) ends
no_usage s result ends (inr fault) used = let wrong : status.WriteFault ≡ status.Usage = sym fault ∙ used in cc

pub answered_words : (asked : Option Line) (line : Line) (s result : Status) → asked ≡ Some line → IsEnd s → (result ≡ s) ⊎ (result ≡ status.WriteFault) → AnswersUsage asked result
answered_words asked line s result is ends either = record {
  usage = λ used. absurd (no_usage s result ends either used);
  no_line = λ none. (let wrong : Some line ≡ None = sym is ∙ none in cc);
}

-- a count that stays at 0 has not risen
pub none_risen : HasRisen 0 0 → ⊥
none_risen (inl l) = omega (arith, l)
none_risen (inr l) = omega (arith, l)
