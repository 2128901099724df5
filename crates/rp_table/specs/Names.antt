-- The names of goods (a format of this project's own).
use Rattle.std.specs.Prelude.{ℕ, ◌≤◌, List, length, All}
use Rattle.rp_limits.specs.declared.table.TheConstants.{NAME_BYTES}

-- 1 to NAME_BYTES bytes, none of them a control character
abbrev pub IsName : List ℕ → Type 0
IsName bytes = (1 ≤ length bytes) × (length bytes ≤ NAME_BYTES) × All (λ byte. 32 ≤ byte) bytes
