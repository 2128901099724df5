-- A desk in memory whose failures are planned: what it holds, and what a read does to it (this project's own).
use Rattle.std.specs.Prelude.{ℕ, ◌≡◌, ◌⊎◌, Bool, List, Contains, None, if◌then◌else◌}
use Rattle.rp_outside.specs.Faults.{next_count}
use Rattle.rp_outside.specs.Files.{bytes_under}

-- the files, the numbers of the calls that fail, how many calls there were, and the count of faults
pub record DeskState : Type 0 where
  pub files : List (List ℕ × List ℕ)
  pub fails : List ℕ
  pub calls : ℕ
  pub faults : ℕ

-- the next read, of this name, fails: its number (from 1) is listed, or there is no such file
abbrev pub ReadFails : DeskState → List ℕ → Type 0
ReadFails desk name = Contains desk.fails (next_count desk.calls) ⊎ (bytes_under desk.files name ≡ None)

-- the desk after a read, which was answered or not
abbrev pub after_read : DeskState → Bool → DeskState
after_read desk answered = record {
  files = desk.files;
  fails = desk.fails;
  calls = next_count desk.calls;
  faults = if answered then desk.faults else next_count desk.faults;
}
