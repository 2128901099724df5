use Rattle.std.proofs.Common.{◌≡◌, refl}
use Rattle.rp_answers.specs.declared.choice_limits.ChoiceLimits.{ChoiceLimits}
use Rattle.rp_command_line.specs.CommandLine.{Line, file_at, file_set, takes_levels}
use Rattle.rp_command_line.specs.Named.{named_line}
use Rattle.rp_command_line.specs.Ranges.{IsSized}
use Rattle.rp_command_line.specs.declared.commands.FileSet.TheVariants.{Table}
use Rattle.rp_commands.specs.Readings.{TakenTable}
use Rattle.rp_limits.specs.declared.run.TheConstants.{MOST_BYTES}
use Rattle.rp_commands.specs.Contents as contents
use Rattle.rp_commands.proofs.LoadLemmas.{IsOverOne, one_loads, over_one}
use Rattle.rp_commands.proofs.contents.load_table.Goals as goal

one : (limits : ChoiceLimits) (line : Line) → file_set line ≡ Table → IsSized line → IsOverOne limits line Table MOST_BYTES (TakenTable (takes_levels line) (file_at line 0)) contents.Table
one limits line holds sized =
    over_one limits line Table MOST_BYTES (TakenTable (takes_levels line) (file_at line 0)) contents.Table
    holds sized refl (λ files f. refl) (λ bytes r read. read)

pub returns-clause-loads : goal.returns-clause-loads
returns-clause-loads g c = one_loads (one g.P.Edition.printed.limits (named_line c.args.line.now) c.requires.files c.requires.sized) c.args.desk.now _ _ c.load_line_table.result c.load_line_table.ensures.loads (λ table has. has)
