-- What a bound is by its evidence alone, and what bounds the worth of feasible points, over any program (duality of
-- linear programming as in Gale, Kuhn and Tucker 1951).
use Rattle.std.specs.Prelude.{ℕ, ◌*◌, pos, ◌≤ℤ◌, slice_index}
use Rattle.rp_evidence.specs.declared.demand.Bound.{Bound}
use Rattle.rp_evidence.specs.declared.demand.Bound.TheVariants.{Shown, Wide}
use Rattle.rp_farkas.specs.LinearProgram.{LinearProgram}
use Rattle.rp_farkas.specs.PairCheck.{IsShownPair}
use Rattle.rp_farkas.specs.Point.{IsFeasiblePoint, value_of}
use Rattle.rp_num.specs.Fraction.{IsLowestTerms}

-- A shown bound is an equal pair of the program, and its value is the measure of the pair's prices, in lowest terms. A
-- withheld one claims nothing.
abbrev pub BoundHolds : LinearProgram → ((ℕ → ℕ) → ℕ) → Bound → Type 0
BoundHolds p measure (Shown value pair) =
    IsShownPair p pair × IsLowestTerms (measure (slice_index pair.x)) pair.den value
BoundHolds p measure (Wide step) = Unit {0}

-- No feasible point of the program is worth more than the whole number k.
abbrev pub NoneWorthMore : LinearProgram → ℕ → Type 0
NoneWorthMore p k = (den : ℕ) (y : ℕ → ℕ) → IsFeasiblePoint p den y → value_of p y ≤ℤ pos (k * den)
