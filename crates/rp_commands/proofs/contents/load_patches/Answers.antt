use Rattle.std.proofs.Common.{◌≡◌, Ok, refl}
use Rattle.rp_text.specs.Denotation.{budgets_in, choices_on, denoted_budgets, denoted_choices}
use Rattle.rp_answers.specs.Printed.{as_stated}
use Rattle.rp_answers.specs.declared.choice_limits.ChoiceLimits.{ChoiceLimits}
use Rattle.rp_command_line.specs.CommandLine.{Line, file_at, file_set}
use Rattle.rp_command_line.specs.Named.{named_line}
use Rattle.rp_command_line.specs.Ranges.{IsSized}
use Rattle.rp_command_line.specs.declared.commands.FileSet.TheVariants.{Choices}
use Rattle.rp_commands.specs.ChoiceContents.{TypedPatchesOf}
use Rattle.rp_commands.specs.Readings.{AndThen, Just, NumbersIn, numbers_in}
use Rattle.rp_limits.specs.declared.run.TheConstants.{MOST_BYTES}
use Rattle.rp_commands.specs.Contents as contents
use Rattle.rp_commands.proofs.FileLemmas.{then_caused}
use Rattle.rp_commands.proofs.LoadLemmas.{IsOverTwo, over_two, two_first_none, two_made, two_second_none}
use Rattle.rp_commands.proofs.contents.load_patches.Goals as goal

two : (limits : ChoiceLimits) (line : Line) → file_set line ≡ Choices → IsSized line
    → IsOverTwo limits line Choices MOST_BYTES MOST_BYTES (numbers_in (file_at line 0) budgets_in) (λ a. NumbersIn (file_at line 1) (choices_on a))
    (λ a b. AndThen (TypedPatchesOf limits a b line.arguments.per) (λ made. Just (Ok (contents.Choices made.0 made.1))))
two limits line holds sized =
    over_two limits line Choices MOST_BYTES MOST_BYTES (numbers_in (file_at line 0) budgets_in) (λ a. NumbersIn (file_at line 1) (choices_on a))
    (λ a b. AndThen (TypedPatchesOf limits a b line.arguments.per) (λ made. Just (Ok (contents.Choices made.0 made.1))))
    (λ a b. AndThen (TypedPatchesOf as_stated.limits a b line.arguments.per) (λ made. Just (Ok (contents.Choices made.0 made.1))))
    holds sized refl (λ files f s. refl) (λ bytes r read. read) (λ files text refused. refused)

pub returns-in_err-budgets-clause-loads : goal.returns-in_err-budgets-clause-loads
unfolding denoted_budgets
returns-in_err-budgets-clause-loads g c =
    two_first_none (two g.P.Edition.printed.limits (named_line c.args.line.now) c.requires.files c.requires.sized) _ c.args.desk.now _ c.from_residual.result c.in_err-budgets.field-0.0 c.from_residual.ensures (rw c.file.ensures at c.in_err-budgets.ensures.loads)

pub returns-in_err-choices-clause-loads : goal.returns-in_err-choices-clause-loads
unfolding denoted_budgets denoted_choices
returns-in_err-choices-clause-loads g c =
    two_second_none (two g.P.Edition.printed.limits (named_line c.args.line.now) c.requires.files c.requires.sized) _ c.args.desk.now _ _ c.in_ok-budgets.budgets (rw c.file.ensures at c.in_ok-budgets.ensures.loads)
    c.from_residual-in_err-choices.result c.in_err-choices.field-0.0 c.from_residual-in_err-choices.ensures (rw c.file-2.ensures at c.in_err-choices.ensures.loads)

pub returns-clause-loads : goal.returns-clause-loads
unfolding denoted_budgets denoted_choices
returns-clause-loads g c =
    let reading = TypedPatchesOf g.P.Edition.printed.limits c.in_ok-budgets.budgets c.in_ok-choices.choices (named_line c.args.line.now).arguments.per in
    two_made (two g.P.Edition.printed.limits (named_line c.args.line.now) c.requires.files c.requires.sized) _ c.args.desk.now _ _ c.in_ok-budgets.budgets (rw c.file.ensures at c.in_ok-budgets.ensures.loads) c.in_ok-choices.choices (rw c.file-2.ensures at c.in_ok-choices.ensures.loads)
    c.patches_of.result reading (λ both. (both.0, both.1)) (λ made. contents.Choices made.0 made.1) (λ made is. (made, is, refl)) (then_caused reading (λ made. contents.Choices made.0 made.1))
    c.patches_of.ensures.made c.patches_of.ensures.caused (λ both has. has)
