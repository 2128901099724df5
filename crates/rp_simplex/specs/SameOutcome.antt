-- When two outcomes are one (this project's own).
use Rattle.std.specs.Prelude.{ℕ, ◌≡◌, ◌<◌, List, slice_index}
use Rattle.rp_farkas.specs.declared.entry.Entry.{Entry}
use Rattle.rp_farkas.specs.declared.entry.Pair.{Pair}
use Rattle.rp_farkas.specs.LinearProgram.{LinearProgram}
use Rattle.rp_farkas.specs.Listing.{numerator_at}
use Rattle.rp_simplex.specs.declared.outcome.Outcome.{Outcome}
use Rattle.rp_simplex.specs.declared.outcome.Outcome.TheVariants.{Optimal, Unbounded, Wide}

-- The points have the same numerator at each of the program's columns.
abbrev pub SamePoint : LinearProgram → List Entry → List Entry → Type 0
SamePoint p y z = (j : ℕ) → j < p.cols → numerator_at y j ≡ numerator_at z j

-- The pairs are the same fractions over the same denominator.
pub record IsSamePair (p : LinearProgram) (a b : Pair) : Type 0 where
  pub den : a.den ≡ b.den
  pub point : SamePoint p a.y b.y
  pub prices : (s : ℕ) → s < p.rows → slice_index a.x s ≡ slice_index b.x s

-- The points and the rays are the same fractions over the same denominator.
pub record IsSameRay (p : LinearProgram) (d e : ℕ) (y z r s : List Entry) : Type 0 where
  pub den : d ≡ e
  pub point : SamePoint p y z
  pub ray : SamePoint p r s

-- The outcomes are of one kind and have the same numbers.
abbrev pub IsSameOutcome : LinearProgram → Outcome → Outcome → Type 0
IsSameOutcome p (Optimal a) (Optimal b) = IsSamePair p a b
IsSameOutcome p (Unbounded d y r) (Unbounded e z s) = IsSameRay p d e y z r s
IsSameOutcome p (Wide m) (Wide n) = m ≡ n
IsSameOutcome p (Optimal a) (Unbounded e z s) = ⊥
IsSameOutcome p (Optimal a) (Wide n) = ⊥
IsSameOutcome p (Unbounded d y r) (Optimal b) = ⊥
IsSameOutcome p (Unbounded d y r) (Wide n) = ⊥
IsSameOutcome p (Wide m) (Optimal b) = ⊥
IsSameOutcome p (Wide m) (Unbounded e z s) = ⊥
