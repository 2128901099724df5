-- What the commands answer to what their files hold (this program's own).
use Rattle.std.specs.Prelude.{◌≡◌, ℕ, List}
use Rattle.rp_answers.specs.ChoicesText.{IsChoicesText}
use Rattle.rp_front.specs.declared.status.Status.{Status}
use Rattle.rp_front.specs.declared.status.Status.TheVariants.{Done}
use Rattle.rp_fit_answers.specs.CheckText.{IsFitCheck}
use Rattle.rp_fit_answers.specs.Contents.{Choices, Held, Table, TableAndCertificate}
use Rattle.rp_fit_answers.specs.IndicesText.{IsIndicesText}
use Rattle.rp_fit_answers.specs.Questions.{CheckFit, Fit, Question, RandomWithin}

-- the status and the text that answer a question
abbrev pub AnswersHeld : Question → Held → Status → List ℕ → Type 0
AnswersHeld (Fit name json) (Table table) s text = IsIndicesText json table s text
AnswersHeld (CheckFit name file) (TableAndCertificate table items) s text = IsFitCheck table items s text
AnswersHeld (RandomWithin a) (Choices patches types) s text = (s ≡ Done) × IsChoicesText a.json a.most patches types text
AnswersHeld _ _ s text = ⊥
