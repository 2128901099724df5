-- What an outcome shows of its program (Gale, Kuhn and Tucker 1951; Farkas 1902).
use Rattle.std.specs.Prelude.{slice_index}
use Rattle.rp_farkas.specs.LinearProgram.{LinearProgram}
use Rattle.rp_farkas.specs.Listing.{numerator_at}
use Rattle.rp_farkas.specs.PairCheck.{IsShownPair, IsShownRay}
use Rattle.rp_farkas.specs.Best.{IsBestPoint, IsBestPrices, HasNoBound}
use Rattle.rp_simplex.specs.declared.outcome.Outcome.{Outcome}
use Rattle.rp_simplex.specs.declared.outcome.Outcome.TheVariants.{Optimal, Unbounded, Wide}

-- A pair is an equal pair of the program, so both its sides are best; a point and a ray are a feasible point and a
-- ray of it, so feasible points pass every value; a passed width shows nothing.
abbrev pub IsEvidence : LinearProgram → Outcome → Type 0
IsEvidence p (Optimal pair) =
    IsShownPair p pair × IsBestPoint p pair.den (numerator_at pair.y) × IsBestPrices p pair.den (slice_index pair.x)
IsEvidence p (Unbounded den point ray) = IsShownRay p den point ray × HasNoBound p
IsEvidence p (Wide step) = Unit {0}
