use Rattle.std.proofs.Common.{◌≡◌, Ok, refl}
use Rattle.rp_evidence.specs.declared.certificate.Kind.TheVariants.{Random as RandomKind}
use Rattle.rp_text.specs.Denotation.{budgets_in, choices_on, denoted_budgets, denoted_choices}
use Rattle.rp_answers.specs.Printed.{as_stated}
use Rattle.rp_answers.specs.declared.choice_limits.ChoiceLimits.{ChoiceLimits}
use Rattle.rp_command_line.specs.CommandLine.{Line, file_at, file_set}
use Rattle.rp_command_line.specs.Named.{named_line}
use Rattle.rp_command_line.specs.Ranges.{IsSized}
use Rattle.rp_command_line.specs.declared.commands.FileSet.TheVariants.{ChoicesAndCertificate}
use Rattle.rp_commands.specs.ChoiceContents.{TypedPatchesOf}
use Rattle.rp_commands.specs.Readings.{AndThen, CertificateIn, Just, numbers_in}
use Rattle.rp_limits.specs.declared.run.TheConstants.{MOST_BYTES, MOST_CERTIFICATE_BYTES}
use Rattle.rp_commands.specs.Contents as contents
use Rattle.rp_commands.proofs.FileLemmas.{then_caused}
use Rattle.rp_commands.proofs.LoadLemmas.{IsOverThree, over_three, three_first_none, three_held, three_last_none, three_second_none, three_third_none}
use Rattle.rp_commands.proofs.contents.load_patches_certificate.Goals as goal

three : (limits : ChoiceLimits) (line : Line) → file_set line ≡ ChoicesAndCertificate → IsSized line
    → IsOverThree limits line ChoicesAndCertificate MOST_BYTES MOST_BYTES MOST_CERTIFICATE_BYTES (numbers_in (file_at line 0) budgets_in) (λ a. numbers_in (file_at line 1) (choices_on a)) (CertificateIn (file_at line 2) RandomKind)
    (λ a b read. AndThen (TypedPatchesOf limits a b line.arguments.per) (λ made. Just (Ok (contents.ChoicesAndCertificate made.0 made.1 read))))
three limits line holds sized =
    over_three limits line ChoicesAndCertificate MOST_BYTES MOST_BYTES MOST_CERTIFICATE_BYTES (numbers_in (file_at line 0) budgets_in) (λ a. numbers_in (file_at line 1) (choices_on a)) (CertificateIn (file_at line 2) RandomKind)
    (λ a b read. AndThen (TypedPatchesOf limits a b line.arguments.per) (λ made. Just (Ok (contents.ChoicesAndCertificate made.0 made.1 read))))
    (λ a b read. AndThen (TypedPatchesOf as_stated.limits a b line.arguments.per) (λ made. Just (Ok (contents.ChoicesAndCertificate made.0 made.1 read))))
    holds sized refl (λ files f s t. refl) (λ bytes r read. read) (λ files text refused. refused) (λ files text refused. refused)

pub returns-in_err-budgets-clause-loads : goal.returns-in_err-budgets-clause-loads
unfolding denoted_budgets
returns-in_err-budgets-clause-loads g c =
    three_first_none (three g.P.Edition.printed.limits (named_line c.args.line.now) c.requires.files c.requires.sized) _ c.args.desk.now _ c.from_residual.result c.in_err-budgets.field-0.0 c.from_residual.ensures (rw c.file.ensures at c.in_err-budgets.ensures.loads)

pub returns-in_err-choices-clause-loads : goal.returns-in_err-choices-clause-loads
unfolding denoted_budgets denoted_choices
returns-in_err-choices-clause-loads g c =
    three_second_none (three g.P.Edition.printed.limits (named_line c.args.line.now) c.requires.files c.requires.sized) _ c.args.desk.now _ _ c.in_ok-budgets.budgets (rw c.file.ensures at c.in_ok-budgets.ensures.loads)
    c.from_residual-in_err-choices.result c.in_err-choices.field-0.0 c.from_residual-in_err-choices.ensures (rw c.file-2.ensures at c.in_err-choices.ensures.loads)

pub returns-in_err-certificate-clause-loads : goal.returns-in_err-certificate-clause-loads
unfolding denoted_budgets denoted_choices
returns-in_err-certificate-clause-loads g c =
    three_third_none (three g.P.Edition.printed.limits (named_line c.args.line.now) c.requires.files c.requires.sized) _ c.args.desk.now _ _ _ c.in_ok-budgets.budgets c.in_ok-choices.choices (rw c.file.ensures at c.in_ok-budgets.ensures.loads) (rw c.file-2.ensures at c.in_ok-choices.ensures.loads)
    c.from_residual-in_err-certificate.result c.in_err-certificate.field-0.0 c.from_residual-in_err-certificate.ensures (rw c.file-3.ensures at c.in_err-certificate.ensures.loads)

pub returns-in_err-patches-clause-loads : goal.returns-in_err-patches-clause-loads
unfolding denoted_budgets denoted_choices
returns-in_err-patches-clause-loads g c =
    let why = c.in_err-patches.field-0.0 in
    let read = c.in_ok-certificate.certificate in
    three_last_none (three g.P.Edition.printed.limits (named_line c.args.line.now) c.requires.files c.requires.sized) _ c.args.desk.now _ _ _ c.in_ok-budgets.budgets c.in_ok-choices.choices (rw c.file.ensures at c.in_ok-budgets.ensures.loads) (rw c.file-2.ensures at c.in_ok-choices.ensures.loads) read (rw c.file-3.ensures at c.in_ok-certificate.ensures.loads)
    c.from_residual-in_err-patches.result why c.from_residual-in_err-patches.ensures
    (then_caused (TypedPatchesOf g.P.Edition.printed.limits c.in_ok-budgets.budgets c.in_ok-choices.choices (named_line c.args.line.now).arguments.per) (λ made. contents.ChoicesAndCertificate made.0 made.1 read) why c.in_err-patches.ensures.caused)

pub returns-clause-loads : goal.returns-clause-loads
unfolding denoted_budgets denoted_choices
returns-clause-loads g c =
    let read = c.in_ok-certificate.certificate in
    three_held (three g.P.Edition.printed.limits (named_line c.args.line.now) c.requires.files c.requires.sized) _ c.args.desk.now _ _ _ c.in_ok-budgets.budgets c.in_ok-choices.choices (rw c.file.ensures at c.in_ok-budgets.ensures.loads) (rw c.file-2.ensures at c.in_ok-choices.ensures.loads) read (rw c.file-3.ensures at c.in_ok-certificate.ensures.loads)
    _ (contents.ChoicesAndCertificate c.in_ok-patches.patches c.in_ok-patches.types read) ((c.in_ok-patches.patches, c.in_ok-patches.types), c.in_ok-patches.ensures.made, refl) (λ has. has)
