-- That a line has the files of its command, and its numbers are in range. Only proofs need these words: the lines
-- that words denote have them.
use Rattle.std.specs.Prelude.{◌≡◌, ℕ, Option, IfSome, length}
use Rattle.rp_command_line.specs.CommandLine.{Line, file_set, files_of, form_of}
use Rattle.rp_command_line.specs.CommandForms.{units}
use Rattle.rp_command_line.specs.CommandLine.{file_names}
use Rattle.rp_command_line.specs.Shapes.{HasRanges, IsInRange}

-- a unit that is asked for is in range
abbrev pub IsUnit : Option ℕ → Type 0
IsUnit per = IfSome per (IsInRange units)

pub record IsSized (line : Line) : Type 0 where
  pub files : length (files_of line) ≡ length (file_names (file_set line))
  pub ranges : HasRanges (form_of line.command) line.arguments
