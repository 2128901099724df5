-- How a desk is asked for the files of a line: for one after another as the words name them, for none a second time,
-- and for no further one once a file was refused or could not be read (this program's own order).
use Rattle.std.specs.Prelude.{◌≤◌, ℕ, ◌+◌, nat_lt, if◌then◌else◌, List, [], ◌∷◌, Option, None, Err, length, sum, take}
use Rattle.rp_outside.specs.Reads.{calls_through}
use Rattle.rp_command_line.specs.CommandLine.{Line, file_at, file_set, files_of, takes_levels}
use Rattle.rp_command_line.specs.CommandLine.{Certificate, File, Numbers, files_in}
use Rattle.rp_commands.specs.Answers.{Files}
use Rattle.rp_commands.specs.Contents.{ContentsIn}
use Rattle.rp_limits.specs.declared.run.TheConstants.{MOST_BYTES, MOST_CERTIFICATE_BYTES}

-- the most calls to read a file through
abbrev pub calls_of_file : Files → File → List ℕ → ℕ
calls_of_file files (Numbers name) file = calls_through MOST_BYTES (files file)
calls_of_file files Certificate file = calls_through MOST_CERTIFICATE_BYTES (files file)

-- the most calls to read each of some files through, by their names
abbrev pub calls_of_each : Files → List File → List (List ℕ) → List ℕ
calls_of_each files (kind ∷ kinds) (file ∷ more) = calls_of_file files kind file ∷ calls_of_each files kinds more
calls_of_each files _ _ = []

-- those of a line, in the order of the words
abbrev pub calls_of_files : Files → Line → List ℕ
calls_of_files files line = calls_of_each files (files_in (file_set line)) (files_of line)

-- from its count of calls before to that after, the desk was asked for no more than the first n files of a line, each
-- once
abbrev pub AsksForFirst : Files → ℕ → ℕ → Line → ℕ → Type 0
AsksForFirst files before after line n = after ≤ before + sum (take n (calls_of_files files line))

-- the bytes of the first n files of a line, as far as they are known
abbrev pub first_known : Files → Line → ℕ → ℕ → Option (List ℕ)
first_known files line n k = if nat_lt k n then files (file_at line k) else None

-- what is known of the first n files of a line is refused, whatever the others hold. The limits of choices do not matter
-- to what is asked: they are looked at once all files are read
abbrev pub AreRefused : Files → Line → ℕ → Type 0
AreRefused files line n = (text : List ℕ)
    × ContentsIn (takes_levels line) (file_set line) line.arguments (first_known files line n) (Err text)

-- each file is read through at most once, and none after one that is refused
pub record AreReadInTurn (files : Files) (before after : ℕ) (line : Line) : Type 0 where
  pub each_once : AsksForFirst files before after line (length (files_of line))
  pub none_after_refused : (n : ℕ) → AreRefused files line n → AsksForFirst files before after line n
