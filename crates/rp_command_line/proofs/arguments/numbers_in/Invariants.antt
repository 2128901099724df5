use Rattle.std.proofs.Common.{◌≡◌, Some, map, take}
use Rattle.clap.specs.Words.{found_of, rows_of}
use Rattle.rp_command_line.specs.Named.{named_number}
use Rattle.rp_command_line.specs.Words.{all_in, number_of}
use Rattle.rp_command_line.proofs.arguments.numbers_in.Given as goal

abbrev pub invariant-loop-number : goal.invariant-loop-number
invariant-loop-number l = all_in number_of (map named_number (take l.number-index l.numbers)) (rows_of (found_of l.matches)) ≡ Some l.all.items
