-- A file of `src/` that is open, as a contract sees it (this project's own form).
use Rattle.std.specs.Prelude.{List, ℕ, Option, string_bytes}
use Rattle.rp_outside.specs.SystemDesk.{KeptFile}
use Rattle.rp_outside.specs.declared.file_desk.OpenFile.{OpenFile}

-- its name, its place, and what it tells of the bytes that are left in it
abbrev pub kept_file : {F : Type 0} → (F → Option (List ℕ)) → OpenFile F → KeptFile
kept_file remaining opened = record {
  name = string_bytes opened.name;
  place = opened.place;
  remaining = remaining opened.file;
}
