use Rattle.std.proofs.Common.{◌∙◌, ◌≡◌, true, false}
use Rattle.std.proofs.lemmas.Int.{to_z-of_z}
use mir.Syntax.{w32}
use Rattle.rp_fit_call.specs.FitWords.{asks_fit}
use Rattle.rp_c.proofs.rp_answer_wide.Goals as goal

pub returns-then-asks_fit-clause-answers : goal.returns-then-asks_fit-clause-answers
returns-then-asks_fit-clause-answers c = λ other.
    let asked : true ≡ asks_fit c.args.words.now = rw c.if-asks_fit.true at c.asks_fit.ensures in
    absurd cc

pub returns-then-asks_fit-clause-answers_on_fit : goal.returns-then-asks_fit-clause-answers_on_fit
returns-then-asks_fit-clause-answers_on_fit c = λ _.
    let read = to_z-of_z w32 c.number.result (record { sfits = c.number.type_inv }) in
    (c.answer_fit.result, read ∙ c.number.ensures, c.answer_fit.ensures.ends, c.answer_fit.ensures.decided)

pub returns-clause-answers : goal.returns-clause-answers
returns-clause-answers c = λ _.
    let read = to_z-of_z w32 c.number-2.result (record { sfits = c.number-2.type_inv }) in
    (c.answer_edition.result, read ∙ c.number-2.ensures, c.answer_edition.ensures.ends, c.answer_edition.ensures.decided)

pub returns-clause-answers_on_fit : goal.returns-clause-answers_on_fit
returns-clause-answers_on_fit c = λ fit.
    let asked : false ≡ asks_fit c.args.words.now = rw c.if-asks_fit.false at c.asks_fit.ensures in
    absurd cc
