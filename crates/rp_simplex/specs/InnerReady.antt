-- For the proofs alone: when a tableau in memory is ready to be run. No public clause cites these words.
use Rattle.std.specs.Prelude.{ℕ}
use Rattle.rp_farkas.specs.Limits.{IsWithinLimits}
use Rattle.rp_simplex.specs.FirstTableau.{IsFirstTableau}
use Rattle.rp_simplex.specs.InnerTableau.{HasRoom}
use Rattle.rp_simplex.specs.ReadProgram.{program_in}
use Rattle.rp_simplex.specs.InnerStage.{exact, IsShapedFor}
use Rattle.rp_simplex.specs.declared.room.Room.{Room}
use Rattle.rp_simplex.specs.declared.stage.Stage.{Stage}

-- There is room for a point and a ray over all columns, and for a price of each row.
pub record HasRooms (room : Room) (rows cols : ℕ) : Type 0 where
  pub point : HasRoom room.point cols
  pub ray : HasRoom room.ray cols
  pub prices : HasRoom room.prices rows

-- The tableau is tableau 0 of the program that can be read from its columns, and there is room for the outcome.
pub record IsReady (t : Stage) (room : Room) : Type 0 where
  pub first : IsFirstTableau (program_in t.columns) (exact t)
  pub shape : IsShapedFor (program_in t.columns) t
  pub limits : IsWithinLimits (program_in t.columns)
  pub rooms : HasRooms room (program_in t.columns).rows (program_in t.columns).cols
