use Rattle.std.proofs.Common.{◌≡◌, Some, map, take}
use Rattle.clap.specs.Walk.{first_of}
use Rattle.clap.specs.Words.{found_of, rows_of}
use Rattle.rp_command_line.specs.Words.{all_in}
use Rattle.rp_command_line.proofs.arguments.files_in.Given as goal

abbrev pub invariant-loop-id : goal.invariant-loop-id
invariant-loop-id l = all_in first_of (map (λ id. id.now) (take l.id-index l.ids)) (rows_of (found_of l.matches)) ≡ Some (map (λ file. file.now) l.files.items)
