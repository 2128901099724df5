-- What the program of goodness of fit means: its words, its files, and what it answers (this program's own).
use Rattle.std.specs.Prelude.{◌≡◌, ℕ, List, [], ◌∷◌, ◌++◌, codes, Option, Some, Ok, Err}
use Rattle.rp_front.specs.Meaning.{Meaning}
use Rattle.rp_front.specs.declared.status.Status.{Status}
use Rattle.rp_fit_answers.specs.Answers.{AnswersHeld}
use Rattle.rp_fit_answers.specs.Contents.{ContentsIn, Held}
use Rattle.rp_fit_answers.specs.Questions.{Question, asked_in, files_of, limits_of}

-- how the commands are called
abbrev pub usage_text : List ℕ
usage_text =
    codes "usage: rp-wide fit TABLE [--json]" ++ 10 ∷ codes "       rp-wide checkfit TABLE CERT" ++ 10
    ∷ codes "       rp-wide random BUDGETS CHOICES --steps N [--per N] [--json]" ++ 10 ∷ []

-- over files of these bytes: the text and the status that answer what they hold; nothing is told beside
abbrev pub answers : Question → (ℕ → List ℕ) → Status → List ℕ → List ℕ → Type 0
answers question bytes s text told = ((held : Held) × ContentsIn question (λ k. Some (bytes k)) (Ok held)
    × AnswersHeld question held s text) × (told ≡ [])

-- they hold something
abbrev pub accepts : Question → (ℕ → List ℕ) → Type 0
accepts question bytes = (held : Held) × ContentsIn question (λ k. Some (bytes k)) (Ok held)

-- what is known of them is refused with this line
abbrev pub refuses : Question → (ℕ → Option (List ℕ)) → List ℕ → Type 0
refuses question known line = ContentsIn question known (Err line)

abbrev pub goodness_of_fit : Meaning
goodness_of_fit = record {
  Asked = Question;
  name = codes "rp";
  usage = usage_text;
  asked_in = asked_in;
  files_of = files_of;
  limits_of = limits_of;
  answers = answers;
  accepts = accepts;
  refuses = refuses;
}
