use Rattle.std.proofs.Common.{◌≡◌, map, take}
use Rattle.clap.specs.Simple.{app_of}
use Rattle.rp_command_line.specs.CommandLine.{form_of}
use Rattle.rp_command_line.proofs.WordLoops.{program_so_far}
use Rattle.rp_command_line.proofs.parser.program.Given as goal

abbrev pub invariant-loop-command : goal.invariant-loop-command
invariant-loop-command l = app_of l.program ≡ program_so_far (map form_of (take l.command-index l.command-items))
