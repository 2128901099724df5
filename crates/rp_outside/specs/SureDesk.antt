-- A desk in memory that never fails: what it holds, and what a read does to it (this project's own).
use Rattle.std.specs.Prelude.{ℕ, List, [], unwrap_or}
use Rattle.rp_outside.specs.Faults.{next_count}
use Rattle.rp_outside.specs.Files.{bytes_under}

-- the files, and how many calls there were
pub record SureState : Type 0 where
  pub files : List (List ℕ × List ℕ)
  pub calls : ℕ

-- the bytes under a name, and none where there is no such file
abbrev pub bytes_or_none : SureState → List ℕ → List ℕ
bytes_or_none desk name = unwrap_or (bytes_under desk.files name) []

-- the desk after a read
abbrev pub after_sure_read : SureState → SureState
after_sure_read desk = record { files = desk.files; calls = next_count desk.calls }
