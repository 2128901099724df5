use Rattle.std.proofs.Common.{◌≡◌, Ok, refl}
use Rattle.rp_cost.specs.Denotation.{asked_beside, denoted_asked, denoted_tech, tech_in}
use Rattle.rp_answers.specs.declared.choice_limits.ChoiceLimits.{ChoiceLimits}
use Rattle.rp_command_line.specs.CommandLine.{Line, file_at, file_set}
use Rattle.rp_command_line.specs.Named.{named_line}
use Rattle.rp_command_line.specs.Ranges.{IsSized}
use Rattle.rp_command_line.specs.declared.commands.FileSet.TheVariants.{TechnologyAndAsked}
use Rattle.rp_commands.specs.Readings.{Just, NumbersIn, numbers_in}
use Rattle.rp_limits.specs.declared.run.TheConstants.{MOST_BYTES}
use Rattle.rp_commands.specs.Contents as contents
use Rattle.rp_commands.proofs.LoadLemmas.{IsOverTwo, over_two, two_first_none, two_held, two_second_none}
use Rattle.rp_commands.proofs.contents.load_technology_asked.Goals as goal

two : (limits : ChoiceLimits) (line : Line) → file_set line ≡ TechnologyAndAsked → IsSized line
    → IsOverTwo limits line TechnologyAndAsked MOST_BYTES MOST_BYTES (numbers_in (file_at line 0) tech_in) (λ a. NumbersIn (file_at line 1) (asked_beside a)) (λ a b. Just (Ok (contents.TechnologyAndAsked a b)))
two limits line holds sized =
    over_two limits line TechnologyAndAsked MOST_BYTES MOST_BYTES (numbers_in (file_at line 0) tech_in) (λ a. NumbersIn (file_at line 1) (asked_beside a)) (λ a b. Just (Ok (contents.TechnologyAndAsked a b)))
    (λ a b. Just (Ok (contents.TechnologyAndAsked a b)))
    holds sized refl (λ files f s. refl) (λ bytes r read. read) (λ files text refused. refused)

pub returns-in_err-tech-clause-loads : goal.returns-in_err-tech-clause-loads
unfolding denoted_tech
returns-in_err-tech-clause-loads g c =
    two_first_none (two g.P.Edition.printed.limits (named_line c.args.line.now) c.requires.files c.requires.sized) _ c.args.desk.now _ c.from_residual.result c.in_err-tech.field-0.0 c.from_residual.ensures (rw c.file.ensures at c.in_err-tech.ensures.loads)

pub returns-in_err-asked-clause-loads : goal.returns-in_err-asked-clause-loads
unfolding denoted_tech denoted_asked
returns-in_err-asked-clause-loads g c =
    two_second_none (two g.P.Edition.printed.limits (named_line c.args.line.now) c.requires.files c.requires.sized) _ c.args.desk.now _ _ c.in_ok-tech.tech (rw c.file.ensures at c.in_ok-tech.ensures.loads)
    c.from_residual-in_err-asked.result c.in_err-asked.field-0.0 c.from_residual-in_err-asked.ensures (rw c.file-2.ensures at c.in_err-asked.ensures.loads)

pub returns-clause-loads : goal.returns-clause-loads
unfolding denoted_tech denoted_asked
returns-clause-loads g c =
    two_held (two g.P.Edition.printed.limits (named_line c.args.line.now) c.requires.files c.requires.sized) _ c.args.desk.now _ _ c.in_ok-tech.tech (rw c.file.ensures at c.in_ok-tech.ensures.loads) c.in_ok-asked.asked (rw c.file-2.ensures at c.in_ok-asked.ensures.loads)
    _ (contents.TechnologyAndAsked c.in_ok-tech.tech c.in_ok-asked.asked) refl (λ has. has)
