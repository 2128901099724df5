use Rattle.std.proofs.Common.{◌≡◌, false, map, take}
use Rattle.clap.specs.Simple.{app_of}
use Rattle.clap.specs.declared.builder.command.Command.TheViews.{out-Command}
use Rattle.rp_command_line.specs.Commands.{file_rule, with_rules}
use Rattle.rp_command_line.proofs.parser.with_files.Given as goal

abbrev pub invariant-loop-file : goal.invariant-loop-file
invariant-loop-file l = record {
  shape : app_of l.more ≡ with_rules (app_of l.fn.command) (map (λ file. file_rule file.now) (take l.file-index l.files));
  local : (out-Command l.more).has_globals ≡ false;
}
