-- What the two checks decide: evidence that is written in this project's own form.
use Rattle.std.specs.Prelude.{ℕ, ◌≡◌, ◌<◌, List, All, length, slice_index}
use Rattle.rp_farkas.specs.declared.entry.Entry.{Entry}
use Rattle.rp_farkas.specs.declared.entry.Pair.{Pair}
use Rattle.rp_farkas.specs.Limits.{FitsEvidence}
use Rattle.rp_farkas.specs.LinearProgram.{LinearProgram}
use Rattle.rp_farkas.specs.Point.{IsFeasiblePoint}
use Rattle.rp_farkas.specs.EqualPair.{IsEqualPair}
use Rattle.rp_farkas.specs.Ray.{IsRay}
use Rattle.rp_farkas.specs.Listing.{IsListing, numerator_at}

-- The pair is written as a pair of this program is: a denominator of 1 to 2^63 - 1, the positive entries of y in
-- rising order, and one entry of x for each row; and it is an equal pair.
pub record IsShownPair (p : LinearProgram) (pair : Pair) : Type 0 where
  pub den_positive : 0 < pair.den
  pub den_fits : FitsEvidence pair.den
  pub y_listed : IsListing p.cols pair.y
  pub x_length : length pair.x ≡ p.rows
  pub x_fits : All FitsEvidence pair.x
  pub equal : IsEqualPair p pair.den (numerator_at pair.y) (slice_index pair.x)

-- The point and the ray, both over `den`, are written likewise; the former is feasible, the latter truly a ray.
pub record IsShownRay (p : LinearProgram) (den : ℕ) (point ray : List Entry) : Type 0 where
  pub den_positive : 0 < den
  pub den_fits : FitsEvidence den
  pub point_listed : IsListing p.cols point
  pub ray_listed : IsListing p.cols ray
  pub feasible : IsFeasiblePoint p den (numerator_at point)
  pub is_ray : IsRay p (numerator_at ray)
