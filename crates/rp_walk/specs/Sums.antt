-- Sums of whole numbers over the steps of walks, as a kind of total (cyclical monotonicity: Rockafellar 1970, section
-- 24).
use Rattle.std.specs.Prelude.{ℕ, ℤ, pos, ◌+ℤ◌, ◌*ℤ◌, FitsSigned}
use mir.Syntax.{w128}
use Rattle.std.proofs.Common.{lit≤}
use Rattle.rp_walk.specs.ExactTotal.{ExactTotal, SameTotal}
use Rattle.rp_walk.specs.Walk.{TotalRule}

-- A whole number as an exact total.
abbrev pub whole_total : ℤ → ExactTotal
whole_total z = record { num = z; den = 1; positive = lit≤ tt }

-- Sums over the steps of walks over n observations: a step from t to s adds the whole number `added t s`.
abbrev pub sums : ℕ → (ℕ → ℕ → ℤ) → TotalRule
sums n added = record {
  count = n;
  empty = whole_total (pos 0);
  after = λ x t s. record { num = x.num +ℤ (added t s *ℤ pos x.den); den = x.den; positive = x.positive };
}

-- A sum that an `i128` can stand for.
abbrev pub FitsI128 : ExactTotal → Type 0
FitsI128 x = (z : ℤ) × FitsSigned w128 z × SameTotal x (whole_total z)
