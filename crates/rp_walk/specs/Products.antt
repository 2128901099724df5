-- Products of fractions over the steps of walks, as a kind of total (Varian 1983).
use Rattle.std.specs.Prelude.{ℕ, ◌*◌, pos, ◌*ℤ◌, max}
use Rattle.std.proofs.Math.Nat.{le-max_left, one-le-mul}
use Rattle.rp_num.specs.Fraction.{Fraction, IsLowestTerms, FitsWidth}
use Rattle.rp_walk.specs.ExactTotal.{ExactTotal, SameTotal}
use Rattle.rp_walk.specs.Walk.{TotalRule}

-- A number, and 1 in place of 0.
abbrev pub at_least_one : ℕ → ℕ
at_least_one k = max 1 k

-- A fraction as an exact total. Its denominator is positive.
abbrev pub as_total : Fraction → ExactTotal
as_total f = record { num = pos f.num; den = at_least_one f.den; positive = le-max_left 1 f.den }

-- The total x multiplied by a/b. Costs are positive.
abbrev pub times : ExactTotal → ℕ → ℕ → ExactTotal
times x a b = record {
  num = x.num *ℤ pos (at_least_one a);
  den = x.den * at_least_one b;
  positive = one-le-mul x.positive (le-max_left 1 b);
}

-- Products over the steps of walks: the factor of the step from t to s is c(t,s)/c(t,t) (Varian 1983). A walk of no
-- step has the product 1.
abbrev pub products : ℕ → (ℕ → ℕ → ℕ) → TotalRule
products n c = record {
  count = n;
  empty = as_total (record { num = 1; den = 1 });
  after = λ x t s. times x (c t s) (c t t);
}

-- A product that a fraction within the width can stand for, in lowest terms.
abbrev pub FitsFraction : ExactTotal → Type 0
FitsFraction x = (f : Fraction) × IsLowestTerms f.num f.den f × FitsWidth f × SameTotal x (as_total f)
