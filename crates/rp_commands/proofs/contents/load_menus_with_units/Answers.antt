use Rattle.std.proofs.Common.{◌≡◌, refl}
use Rattle.rp_answers.specs.declared.choice_limits.ChoiceLimits.{ChoiceLimits}
use Rattle.rp_command_line.specs.CommandLine.{Line, file_at, file_set}
use Rattle.rp_command_line.specs.Named.{named_line}
use Rattle.rp_command_line.specs.Ranges.{IsSized}
use Rattle.rp_command_line.specs.declared.commands.FileSet.TheVariants.{Menus}
use Rattle.rp_commands.specs.MenuContents.{MenusIn}
use Rattle.rp_limits.specs.declared.run.TheConstants.{MOST_BYTES}
use Rattle.rp_commands.specs.Contents as contents
use Rattle.rp_commands.proofs.LoadLemmas.{IsOverOne, one_held, one_none, over_one}
use Rattle.rp_commands.proofs.MenuFiles.{menus_load, no_menus_load, no_units_load}
use Rattle.rp_commands.proofs.contents.load_menus_with_units.Goals as goal

one : (limits : ChoiceLimits) (line : Line) → file_set line ≡ Menus → IsSized line
    → IsOverOne limits line Menus MOST_BYTES (MenusIn line.arguments.per (file_at line 0)) (λ made. contents.Menus made.0 made.1)
one limits line holds sized =
    over_one limits line Menus MOST_BYTES (MenusIn line.arguments.per (file_at line 0)) (λ made. contents.Menus made.0 made.1)
    holds sized refl (λ files f. refl) (λ bytes r read. read)

pub returns-in_err-seen-clause-loads : goal.returns-in_err-seen-clause-loads
returns-in_err-seen-clause-loads g c =
    let line = named_line c.args.line.now in
    let why = c.in_err-seen.field-0.0 in
    one_none (one g.P.Edition.printed.limits line c.requires.files c.requires.sized) c.args.desk.now _ _ c.from_residual.result why c.from_residual.ensures
    (no_menus_load g.D.Desk.bytes g.D.Desk.faults g.D.Desk.calls g.D.Desk.asked c.args.desk.now _ (file_at line 0) line.arguments.per why (rw c.file.ensures at c.in_err-seen.ensures))

pub returns-in_err-units-clause-loads : goal.returns-in_err-units-clause-loads
returns-in_err-units-clause-loads g c =
    let line = named_line c.args.line.now in
    let why = c.in_err-units.field-0.0 in
    one_none (one g.P.Edition.printed.limits line c.requires.files c.requires.sized) c.args.desk.now _ _ c.from_residual-in_err-units.result why c.from_residual-in_err-units.ensures
    (no_units_load g.D.Desk.bytes g.D.Desk.faults g.D.Desk.calls g.D.Desk.asked c.args.desk.now _ (file_at line 0) line.arguments.per c.in_ok-seen.seen why (rw c.file.ensures at c.in_ok-seen.ensures) c.in_err-units.ensures.caused)

pub returns-clause-loads : goal.returns-clause-loads
returns-clause-loads g c =
    let line = named_line c.args.line.now in
    one_held (one g.P.Edition.printed.limits line c.requires.files c.requires.sized) c.args.desk.now _ _ _ (c.in_ok-seen.seen, c.in_ok-units.units)
    (menus_load g.D.Desk.bytes g.D.Desk.faults g.D.Desk.calls g.D.Desk.asked c.args.desk.now _ (file_at line 0) line.arguments.per c.in_ok-seen.seen c.in_ok-units.units (rw c.file.ensures at c.in_ok-seen.ensures) c.in_ok-units.ensures.made) (λ has. has)
