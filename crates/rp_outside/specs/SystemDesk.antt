-- What a contract sees of the desk of the system: its counts, and of the file that it keeps open what the file tells of
-- the bytes that are left in it (this project's own).
use Rattle.std.specs.Prelude.{◌≡◌, ◌<◌, ℕ, ◌+◌, List, Option, Some, length, min, take}
use Rattle.std.specs.Io.KnownBytes.{Consumes, IsAtEnd}
use Rattle.rp_outside.specs.Faults.{last_count}

-- a file that is open: its name, the place of the next read, and the bytes from there on, where it tells them
pub record KeptFile : Type 0 where
  pub name : List ℕ
  pub place : ℕ
  pub remaining : Option (List ℕ)

-- the file that is kept open, how many calls there were, and how many of them failed
pub record FileDeskState : Type 0 where
  pub kept : Option KeptFile
  pub calls : ℕ
  pub faults : ℕ

-- after a read of n bytes from a place on, the file of that name is kept at the place behind them
abbrev pub KeepsOpen : Option KeptFile → List ℕ → ℕ → ℕ → Type 0
KeepsOpen kept name at n =
    (file : KeptFile) × (kept ≡ Some file) × (file.name ≡ name) × (file.place ≡ min (at + n) last_count)

-- a read that goes on where the last one ended gives the n bytes that are left first, and none only at the end or where
-- there is no room, as far as the file tells them
abbrev pub ReadsOn : Option (List ℕ) → Option KeptFile → List ℕ → ℕ → Type 0
ReadsOn remaining kept into n = (file : KeptFile) × (kept ≡ Some file)
    × Consumes remaining file.remaining (take n into)
    × (n ≡ 0 → 0 < length into → IsAtEnd file.remaining)
