-- A desk and a sink in memory that give and take at most so many bytes a call, over the ones that give and take all
-- (this project's own).
use Rattle.std.specs.Prelude.{ℕ, ◌≡◌, ◌-◌, Bool, List, Result, drop, length, min, take}
use Rattle.rp_outside.specs.MemoryDesk.{DeskState, after_read}
use Rattle.rp_outside.specs.MemorySink.{SinkState, after_write}

-- the desk that it reads, and the most bytes that it gives a call
pub record DripDeskState : Type 0 where
  pub desk : DeskState
  pub piece : ℕ

-- n bytes from the place `at` on stand at the front of `into`: the least of a piece, of what has room and of what there
-- is
abbrev pub ReadsPiece : ℕ → List ℕ → ℕ → List ℕ → ℕ → Type 0
ReadsPiece piece bs at into n = (n ≡ min piece (min (length into) (length bs - at)))
    × (take n into ≡ take n (drop at bs))

-- the desk after a read, which was answered or not
abbrev pub after_drip_read : DripDeskState → Bool → DripDeskState
after_drip_read drip answered = record { desk = after_read drip.desk answered; piece = drip.piece }

-- the sink that it writes to, and the most bytes that it takes a call
pub record DripSinkState : Type 0 where
  pub sink : SinkState
  pub piece : ℕ

-- how many bytes it takes of a piece of this length: the least of its own piece, of that length and of the room
abbrev pub taken_count : DripSinkState → ℕ → ℕ
taken_count drip len = min drip.piece (min len (drip.sink.limit - length drip.sink.written))

-- the sink after a write of this piece, of which it took the n first bytes or none
abbrev pub after_drip_write : {E : Type 0} → DripSinkState → List ℕ → Result ℕ E → DripSinkState
after_drip_write drip piece result = record { sink = after_write drip.sink piece result; piece = drip.piece }
