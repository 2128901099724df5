use Rattle.std.proofs.Common.{◌≡◌, Ok, refl}
use Rattle.rp_evidence.specs.declared.certificate.Kind.TheVariants.{Table as TableKind}
use Rattle.rp_answers.specs.declared.choice_limits.ChoiceLimits.{ChoiceLimits}
use Rattle.rp_command_line.specs.CommandLine.{Line, file_at, file_set, takes_levels}
use Rattle.rp_command_line.specs.Named.{named_line}
use Rattle.rp_command_line.specs.Ranges.{IsSized}
use Rattle.rp_command_line.specs.declared.commands.FileSet.TheVariants.{TableAndCertificate}
use Rattle.rp_commands.specs.Readings.{CertificateIn, Just, taken_table}
use Rattle.rp_limits.specs.declared.run.TheConstants.{MOST_BYTES, MOST_CERTIFICATE_BYTES}
use Rattle.rp_commands.specs.Contents as contents
use Rattle.rp_commands.proofs.LoadLemmas.{IsOverTwo, over_two, two_first_none, two_held, two_second_none}
use Rattle.rp_commands.proofs.contents.load_table_certificate.Goals as goal

two : (limits : ChoiceLimits) (line : Line) → file_set line ≡ TableAndCertificate → IsSized line
    → IsOverTwo limits line TableAndCertificate MOST_BYTES MOST_CERTIFICATE_BYTES (taken_table (takes_levels line) (file_at line 0)) (λ a. CertificateIn (file_at line 1) TableKind) (λ a b. Just (Ok (contents.TableAndCertificate a b)))
two limits line holds sized =
    over_two limits line TableAndCertificate MOST_BYTES MOST_CERTIFICATE_BYTES (taken_table (takes_levels line) (file_at line 0)) (λ a. CertificateIn (file_at line 1) TableKind) (λ a b. Just (Ok (contents.TableAndCertificate a b)))
    (λ a b. Just (Ok (contents.TableAndCertificate a b)))
    holds sized refl (λ files f s. refl) (λ bytes r read. read) (λ files text refused. refused)

pub returns-in_err-table-clause-loads : goal.returns-in_err-table-clause-loads
returns-in_err-table-clause-loads g c =
    two_first_none (two g.P.Edition.printed.limits (named_line c.args.line.now) c.requires.files c.requires.sized) _ c.args.desk.now _ c.from_residual.result c.in_err-table.field-0.0 c.from_residual.ensures c.in_err-table.ensures.loads

pub returns-in_err-certificate-clause-loads : goal.returns-in_err-certificate-clause-loads
returns-in_err-certificate-clause-loads g c =
    two_second_none (two g.P.Edition.printed.limits (named_line c.args.line.now) c.requires.files c.requires.sized) _ c.args.desk.now _ _ c.in_ok-table.table c.in_ok-table.ensures.loads
    c.from_residual-in_err-certificate.result c.in_err-certificate.field-0.0 c.from_residual-in_err-certificate.ensures (rw c.file.ensures at c.in_err-certificate.ensures.loads)

pub returns-clause-loads : goal.returns-clause-loads
returns-clause-loads g c =
    two_held (two g.P.Edition.printed.limits (named_line c.args.line.now) c.requires.files c.requires.sized) _ c.args.desk.now _ _ c.in_ok-table.table c.in_ok-table.ensures.loads c.in_ok-certificate.certificate (rw c.file.ensures at c.in_ok-certificate.ensures.loads)
    _ (contents.TableAndCertificate c.in_ok-table.table c.in_ok-certificate.certificate) refl (λ has. has)
