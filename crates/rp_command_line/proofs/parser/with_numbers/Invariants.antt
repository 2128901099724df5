use Rattle.std.proofs.Common.{◌≡◌, false, map, take}
use Rattle.clap.specs.Simple.{app_of}
use Rattle.clap.specs.declared.builder.command.Command.TheViews.{out-Command}
use Rattle.rp_command_line.specs.Commands.{number_rule, with_rules}
use Rattle.rp_command_line.specs.Named.{named_number}
use Rattle.rp_command_line.proofs.parser.with_numbers.Given as goal

abbrev pub invariant-loop-number : goal.invariant-loop-number
invariant-loop-number l = record {
  shape : app_of l.more ≡ with_rules (app_of l.fn.command) (map (λ number. number_rule (named_number number)) (take l.number-index l.numbers));
  local : (out-Command l.more).has_globals ≡ false;
}
