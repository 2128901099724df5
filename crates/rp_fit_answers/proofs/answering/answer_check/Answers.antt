use Rattle.rp_fit_answers.specs.Contents as contents
use Rattle.rp_fit_answers.specs.Questions as questions
use Rattle.rp_fit_answers.proofs.LoadLemmas.{answered_whole}
use Rattle.rp_fit_answers.proofs.answering.answer_check.Goals as goal

pub returns-in-Ok : goal.returns-in-Ok
returns-in-Ok g c =
    let at = c.in-Ok in
    answered_whole (questions.CheckFit c.args.table.now c.args.certificate.now) (contents.TableAndCertificate at.held at.items) (at.held, at.items) at.ensures at.ensures.held
    c.check_answer.result (rw c.as_slice.ensures at c.check_answer.ensures) c.whole.result c.whole.ensures
