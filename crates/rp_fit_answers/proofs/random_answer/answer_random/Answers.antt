use Rattle.rp_fit_answers.specs.Contents as contents
use Rattle.rp_fit_answers.specs.Questions as questions
use Rattle.rp_fit_answers.specs.RandomWords.{asking_of}
use Rattle.rp_fit_answers.proofs.LoadLemmas.{answered_whole}
use Rattle.rp_fit_answers.proofs.random_answer.answer_random.Goals as goal

pub returns-in-Ok : goal.returns-in-Ok
returns-in-Ok g c =
    let at = c.in-Ok in
    answered_whole (questions.RandomWithin (asking_of c.args.asked.now)) (contents.Choices at.patches at.types) (at.patches, at.types) at.ensures.loads at.ensures.loads.held
    c.random_answer.result c.random_answer.ensures c.whole.result c.whole.ensures
