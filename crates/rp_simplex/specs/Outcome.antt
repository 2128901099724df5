-- The outcomes of the run: the last tableau of the simplex (Dantzig 1963), or a passed width (this project's own).
use Rattle.std.specs.Prelude.{ℕ, ◌≡◌, ◌-◌, ◌^◌, min, List, length, slice_index}
use Rattle.rp_farkas.specs.declared.entry.Entry.{Entry}
use Rattle.rp_farkas.specs.declared.entry.Pair.{Pair}
use Rattle.rp_farkas.specs.LinearProgram.{LinearProgram}
use Rattle.rp_farkas.specs.Listing.{IsListing, numerator_at}
use Rattle.rp_simplex.specs.ExactTableau.{ExactTableau, width_of}
use Rattle.rp_simplex.specs.Choice.{IsEntering, IsOptimal, IsUnbounded}
use Rattle.rp_simplex.specs.Run.{IsTableauAfter}
use Rattle.rp_simplex.specs.Width.{IsWithinWidth}
use Rattle.rp_simplex.specs.Readout.{IsPointAt, ArePricesAt, IsRayAt}
use Rattle.rp_simplex.specs.declared.outcome.Outcome.{Outcome}
use Rattle.rp_simplex.specs.declared.outcome.Outcome.TheVariants.{Optimal, Unbounded, Wide}

-- The run ends within its width at a tableau where no column can enter, and the pair is what that tableau shows.
pub record EndsOptimal (p : LinearProgram) (pair : Pair) : Type 0 where
  pub steps : ℕ
  pub last : ExactTableau
  pub reached : IsTableauAfter p steps last
  pub within : IsWithinWidth p.rows (width_of p) last
  pub optimal : IsOptimal p.rows (width_of p) last
  pub den : pair.den ≡ last.den
  pub y_listed : IsListing p.cols pair.y
  pub y_at : IsPointAt p last (numerator_at pair.y)
  pub x_length : length pair.x ≡ p.rows
  pub x_at : ArePricesAt p last (slice_index pair.x)

-- The run ends within its width at a tableau where a column can enter and no row can leave; the point and the ray
-- are what that tableau shows.
pub record EndsUnbounded (p : LinearProgram) (den : ℕ) (point ray : List Entry) : Type 0 where
  pub steps : ℕ
  pub last : ExactTableau
  pub column : ℕ
  pub reached : IsTableauAfter p steps last
  pub within : IsWithinWidth p.rows (width_of p) last
  pub entering : IsEntering p.rows (width_of p) last column
  pub unbounded : IsUnbounded p.rows last column
  pub same_den : den ≡ last.den
  pub point_listed : IsListing p.cols point
  pub point_at : IsPointAt p last (numerator_at point)
  pub ray_listed : IsListing p.cols ray
  pub ray_at : IsRayAt p last column (numerator_at ray)

-- The run passes its width: its tableau after `steps` pivots is the first that is not within it. A step is counted
-- up to 2^64 - 1, which stands for every greater number too.
pub record EndsPastWidth (p : LinearProgram) (step : ℕ) : Type 0 where
  pub steps : ℕ
  pub last : ExactTableau
  pub reached : IsTableauAfter p steps last
  pub passes : IsWithinWidth p.rows (width_of p) last → ⊥
  pub step_is : step ≡ min steps (2 ^ 64 - 1)

-- The outcome is the run's.
abbrev pub IsOutcome : LinearProgram → Outcome → Type 0
IsOutcome p (Optimal pair) = EndsOptimal p pair
IsOutcome p (Unbounded den point ray) = EndsUnbounded p den point ray
IsOutcome p (Wide step) = EndsPastWidth p step
