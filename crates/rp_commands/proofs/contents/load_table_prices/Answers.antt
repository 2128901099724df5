use Rattle.std.proofs.Common.{◌≡◌, Ok, refl}
use Rattle.std.specs.Prelude.{false}
use Rattle.rp_text.specs.Denotation.{denoted_prices, prices_beside}
use Rattle.rp_answers.specs.declared.choice_limits.ChoiceLimits.{ChoiceLimits}
use Rattle.rp_command_line.specs.CommandLine.{Line, file_at, file_set, takes_levels}
use Rattle.rp_command_line.specs.Named.{named_line}
use Rattle.rp_command_line.specs.Ranges.{IsSized}
use Rattle.rp_command_line.specs.declared.commands.FileSet.TheVariants.{TableAndPrices}
use Rattle.rp_commands.specs.Readings.{Just, NumbersIn, taken_table}
use Rattle.rp_limits.specs.declared.run.TheConstants.{MOST_BYTES}
use Rattle.rp_commands.specs.Contents as contents
use Rattle.rp_commands.proofs.LoadLemmas.{IsOverTwo, over_two, two_first_none, two_held, two_second_none}
use Rattle.rp_commands.proofs.contents.load_table_prices.Goals as goal

two : (limits : ChoiceLimits) (line : Line) → file_set line ≡ TableAndPrices → IsSized line
    → IsOverTwo limits line TableAndPrices MOST_BYTES MOST_BYTES (taken_table (takes_levels line) (file_at line 0)) (λ a. NumbersIn (file_at line 1) (prices_beside false a)) (λ a b. Just (Ok (contents.TableAndPrices a b)))
two limits line holds sized =
    over_two limits line TableAndPrices MOST_BYTES MOST_BYTES (taken_table (takes_levels line) (file_at line 0)) (λ a. NumbersIn (file_at line 1) (prices_beside false a)) (λ a b. Just (Ok (contents.TableAndPrices a b)))
    (λ a b. Just (Ok (contents.TableAndPrices a b)))
    holds sized refl (λ files f s. refl) (λ bytes r read. read) (λ files text refused. refused)

pub returns-in_err-table-clause-loads : goal.returns-in_err-table-clause-loads
returns-in_err-table-clause-loads g c =
    two_first_none (two g.P.Edition.printed.limits (named_line c.args.line.now) c.requires.files c.requires.sized) _ c.args.desk.now _ c.from_residual.result c.in_err-table.field-0.0 c.from_residual.ensures c.in_err-table.ensures.loads

pub returns-in_err-new-clause-loads : goal.returns-in_err-new-clause-loads
unfolding denoted_prices
returns-in_err-new-clause-loads g c =
    two_second_none (two g.P.Edition.printed.limits (named_line c.args.line.now) c.requires.files c.requires.sized) _ c.args.desk.now _ _ c.in_ok-table.table c.in_ok-table.ensures.loads
    c.from_residual-in_err-new.result c.in_err-new.field-0.0 c.from_residual-in_err-new.ensures (rw c.file.ensures at c.in_err-new.ensures.loads)

pub returns-clause-loads : goal.returns-clause-loads
unfolding denoted_prices
returns-clause-loads g c =
    two_held (two g.P.Edition.printed.limits (named_line c.args.line.now) c.requires.files c.requires.sized) _ c.args.desk.now _ _ c.in_ok-table.table c.in_ok-table.ensures.loads c.in_ok-new.new (rw c.file.ensures at c.in_ok-new.ensures.loads)
    _ (contents.TableAndPrices c.in_ok-table.table c.in_ok-new.new) refl (λ has. has)
