use Rattle.rp_fit_answers.specs.Contents as contents
use Rattle.rp_fit_answers.specs.InnerLoadings.{HasContents}
use Rattle.rp_fit_answers.specs.Questions.{CheckFit}
use Rattle.rp_fit_answers.proofs.LoadLemmas.{two_first_none, two_held, two_second_none}
use Rattle.rp_fit_answers.proofs.loading.load_asked_certificate.Goals as goal

pub returns-in-Err : goal.returns-in-Err
returns-in-Err g c = two_first_none _ c.args.table.now c.args.certificate.now c.args.desk.now _ c.in-Err.why c.in-Err.ensures

pub returns-in-Ok-load_certificate : goal.returns-in-Ok-load_certificate
returns-in-Ok-load_certificate g c =
    two_held (λ both. HasContents (g.D.Desk.bytes c.args.desk.now) (CheckFit c.args.table.now c.args.certificate.now) (contents.TableAndCertificate both.0 both.1))
    c.args.table.now c.args.certificate.now c.args.desk.now _ _ c.in-Ok.held c.in-Ok.ensures c.in-Ok-load_certificate.items (c.in-Ok.held, c.in-Ok-load_certificate.items) c.in-Ok-load_certificate.ensures (λ has. has)

pub returns-in-Err-load_certificate : goal.returns-in-Err-load_certificate
returns-in-Err-load_certificate g c =
    two_second_none _ c.args.table.now c.args.certificate.now c.args.desk.now _ _ c.in-Ok.held c.in-Ok.ensures c.in-Err-load_certificate.why c.in-Err-load_certificate.ensures
