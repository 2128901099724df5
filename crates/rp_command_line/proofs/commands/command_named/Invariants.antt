use Rattle.std.proofs.Common.{◌≡◌, None, take}
use Rattle.std.specs.List.{find}
use Rattle.std.specs.Str.{bytes_eq}
use Rattle.rp_command_line.specs.CommandLine.{form_of}
use Rattle.rp_command_line.proofs.commands.command_named.Given as goal

abbrev pub invariant-loop-command : goal.invariant-loop-command
invariant-loop-command l = find (λ command. bytes_eq l.name (form_of command).name) (take l.command-index l.command-items) ≡ None
