-- The choices behind patches that files denote, and what an item on them says of people (McFadden and Richter 1990;
-- Kitamura and Stoye 2018).
use Rattle.std.specs.Prelude.{ℕ, List, Option, Ok}
use Rattle.rp_table.specs.BudgetLists.{BudgetList}
use Rattle.rp_table.specs.ChoiceLists.{ChoiceList}
use Rattle.rp_evidence.specs.declared.random.RandomPart.{RandomPart}
use Rattle.rp_patch.specs.Choices.{random_input_of}
use Rattle.rp_patch.specs.Patches.{PatchList}
use Rattle.rp_patch.specs.Units.{ArePatchesOf}
use Rattle.rp_persons.specs.PersonMixtures.{IsFullRandomInput}
use Rattle.rp_persons.specs.SaysRandom.{SaysOfChoices, SaysRandom}
use Rattle.rp_command_line.specs.CommandLine.{Arguments}
use Rattle.rp_commands.specs.ChoiceContents.{BudgetsIn, ChoicesIn}

-- The first file denotes budgets, the second choices from them, and the patches are theirs; no chosen bundle is empty; and
-- evidence that says something of all choices with these patches says it of these.
pub record AreOfChoicesIn (arguments : Arguments) (known : ℕ → Option (List ℕ)) (p : PatchList) : Type 0 where
  pub budgets : BudgetList
  pub choices : ChoiceList
  pub budgets_in_first : BudgetsIn arguments known (Ok budgets)
  pub choices_in_second : ChoicesIn budgets arguments known (Ok choices)
  pub patches : ArePatchesOf (random_input_of budgets choices) arguments.per p
  pub full : IsFullRandomInput (random_input_of budgets choices)
  pub says : (part : RandomPart) → SaysOfChoices p part → SaysRandom (random_input_of budgets choices) p part
