-- A read of `src/` that was asked for, as the pair of its name and its place (this project's own form).
use Rattle.std.specs.Prelude.{ℕ, List, string_bytes}
use Rattle.rp_outside.specs.declared.listing_desk.AskedRead.{AskedRead}

-- the name and the place
abbrev pub listed_read : AskedRead → List ℕ × ℕ
listed_read read = (string_bytes read.name, read.at)
