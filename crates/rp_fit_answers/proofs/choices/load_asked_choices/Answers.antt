use Rattle.rp_fit_answers.specs.Contents as contents
use Rattle.rp_fit_answers.specs.InnerLoadings.{HasContents}
use Rattle.rp_fit_answers.specs.Questions.{RandomWithin}
use Rattle.rp_fit_answers.specs.RandomWords.{asking_of}
use Rattle.rp_fit_answers.proofs.ChoiceLemmas.{both_held, first_none, second_none}
use Rattle.rp_fit_answers.proofs.choices.load_asked_choices.Goals as goal

pub returns-in-Err-clause-loads : goal.returns-in-Err-clause-loads
returns-in-Err-clause-loads g c = first_none _ (asking_of c.args.asked.now) c.args.desk.now _ c.in-Err.why c.in-Err.ensures

pub returns-in-Ok-load_choices-clause-loads : goal.returns-in-Ok-load_choices-clause-loads
returns-in-Ok-load_choices-clause-loads g c =
    both_held (λ both. HasContents (g.D.Desk.bytes c.args.desk.now) (RandomWithin (asking_of c.args.asked.now)) (contents.Choices both.0 both.1))
    (asking_of c.args.asked.now) c.args.desk.now _ _ c.in-Ok.budgets c.in-Ok.ensures c.in-Ok-load_choices.both c.in-Ok-load_choices.both (rw c.units.ensures.exact at c.in-Ok-load_choices.ensures.loads) (λ has. has)

pub returns-clause-loads : goal.returns-clause-loads
returns-clause-loads g c =
    second_none _ (asking_of c.args.asked.now) c.args.desk.now _ _ c.in-Ok.budgets c.in-Ok.ensures c.in-Err-load_choices.why (rw c.units.ensures.exact at c.in-Err-load_choices.ensures.loads)
