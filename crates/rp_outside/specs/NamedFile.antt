-- A file in memory of `src/`, as the pair of its name and its bytes (this project's own form).
use Rattle.std.specs.Prelude.{ℕ, List, string_bytes}
use Rattle.rp_outside.specs.declared.memory_files.MemFile.{MemFile}

-- the name and the bytes
abbrev pub named_bytes : MemFile → List ℕ × List ℕ
named_bytes file = (string_bytes file.name, file.bytes.items)
