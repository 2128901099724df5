-- A desk in memory that lists the reads that it is asked for: what it holds (this project's own).
use Rattle.std.specs.Prelude.{ℕ}
use Rattle.rp_outside.specs.Asked.{Reads}
use Rattle.rp_outside.specs.MemoryDesk.{DeskState}

-- the desk that it reads, the reads that it was asked for, and how many calls there were
pub record ListingState : Type 0 where
  pub desk : DeskState
  pub asked : Reads
  pub calls : ℕ
