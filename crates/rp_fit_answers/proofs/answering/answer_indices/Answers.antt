use Rattle.rp_fit_answers.specs.Contents as contents
use Rattle.rp_fit_answers.specs.Questions as questions
use Rattle.rp_fit_answers.proofs.LoadLemmas.{answered_whole}
use Rattle.rp_fit_answers.proofs.answering.answer_indices.Goals as goal

pub returns-in-Ok : goal.returns-in-Ok
returns-in-Ok g c =
    let at = c.in-Ok in
    answered_whole (questions.Fit c.args.table.now c.args.json) (contents.Table at.held) at.held at.ensures at.ensures.held
    c.indices_answer.result c.indices_answer.ensures c.whole.result c.whole.ensures
