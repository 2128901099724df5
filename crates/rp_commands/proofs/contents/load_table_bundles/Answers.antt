use Rattle.std.proofs.Common.{◌≡◌, Ok, refl}
use Rattle.rp_text.specs.Denotation.{bundles_beside, denoted_bundles}
use Rattle.rp_answers.specs.declared.choice_limits.ChoiceLimits.{ChoiceLimits}
use Rattle.rp_command_line.specs.CommandLine.{Line, file_at, file_set, takes_levels}
use Rattle.rp_command_line.specs.Named.{named_line}
use Rattle.rp_command_line.specs.Ranges.{IsSized}
use Rattle.rp_command_line.specs.declared.commands.FileSet.TheVariants.{TableAndBundles}
use Rattle.rp_commands.specs.Readings.{Just, NumbersIn, taken_table}
use Rattle.rp_limits.specs.declared.run.TheConstants.{MOST_BYTES}
use Rattle.rp_commands.specs.Contents as contents
use Rattle.rp_commands.proofs.LoadLemmas.{IsOverTwo, over_two, two_first_none, two_held, two_second_none}
use Rattle.rp_commands.proofs.contents.load_table_bundles.Goals as goal

two : (limits : ChoiceLimits) (line : Line) → file_set line ≡ TableAndBundles → IsSized line
    → IsOverTwo limits line TableAndBundles MOST_BYTES MOST_BYTES (taken_table (takes_levels line) (file_at line 0)) (λ a. NumbersIn (file_at line 1) (bundles_beside a)) (λ a b. Just (Ok (contents.TableAndBundles a b)))
two limits line holds sized =
    over_two limits line TableAndBundles MOST_BYTES MOST_BYTES (taken_table (takes_levels line) (file_at line 0)) (λ a. NumbersIn (file_at line 1) (bundles_beside a)) (λ a b. Just (Ok (contents.TableAndBundles a b)))
    (λ a b. Just (Ok (contents.TableAndBundles a b)))
    holds sized refl (λ files f s. refl) (λ bytes r read. read) (λ files text refused. refused)

pub returns-in_err-table-clause-loads : goal.returns-in_err-table-clause-loads
returns-in_err-table-clause-loads g c =
    two_first_none (two g.P.Edition.printed.limits (named_line c.args.line.now) c.requires.files c.requires.sized) _ c.args.desk.now _ c.from_residual.result c.in_err-table.field-0.0 c.from_residual.ensures c.in_err-table.ensures.loads

pub returns-in_err-bundles-clause-loads : goal.returns-in_err-bundles-clause-loads
unfolding denoted_bundles
returns-in_err-bundles-clause-loads g c =
    two_second_none (two g.P.Edition.printed.limits (named_line c.args.line.now) c.requires.files c.requires.sized) _ c.args.desk.now _ _ c.in_ok-table.table c.in_ok-table.ensures.loads
    c.from_residual-in_err-bundles.result c.in_err-bundles.field-0.0 c.from_residual-in_err-bundles.ensures (rw c.file.ensures at c.in_err-bundles.ensures.loads)

pub returns-clause-loads : goal.returns-clause-loads
unfolding denoted_bundles
returns-clause-loads g c =
    two_held (two g.P.Edition.printed.limits (named_line c.args.line.now) c.requires.files c.requires.sized) _ c.args.desk.now _ _ c.in_ok-table.table c.in_ok-table.ensures.loads c.in_ok-bundles.bundles (rw c.file.ensures at c.in_ok-bundles.ensures.loads)
    _ (contents.TableAndBundles c.in_ok-table.table c.in_ok-bundles.bundles) refl (λ has. has)
