-- Bundles of fractions of goods (Varian 1982, section 1, where quantities are real numbers; here they are fractions).
-- A bundle is a `FractionBundle`: num g / den of each good g, with a positive denominator.
use Rattle.std.specs.Prelude.{◌≡◌, ℕ, ◌+◌, ◌*◌, ◌<◌, ◌≤◌}
use Rattle.rp_table.specs.Spending.{spending}
use Rattle.rp_evidence.specs.Demand.{FractionBundle}

-- Its denominator is positive.
abbrev pub IsBundle : FractionBundle → Type 0
IsBundle x = 0 < x.den

-- Two bundles of these goods are equal in value: they have the same fraction of each good.
abbrev pub AreEqualInValue : ℕ → FractionBundle → FractionBundle → Type 0
AreEqualInValue goods x y = (g : ℕ) → g < goods → x.num g * y.den ≡ y.num g * x.den

-- The bundle x has more of every good than y.
abbrev pub HasMoreOfEveryGood : ℕ → FractionBundle → FractionBundle → Type 0
HasMoreOfEveryGood goods x y = (g : ℕ) → g < goods → y.num g * x.den < x.num g * y.den

-- The bundle x has no less of any good than y, and more of one.
pub record HasMoreOfSomeGood (goods : ℕ) (x y : FractionBundle) : Type 0 where
  pub no_less : (g : ℕ) → g < goods → y.num g * x.den ≤ x.num g * y.den
  pub good : ℕ
  pub among : good < goods
  pub more : y.num good * x.den < x.num good * y.den

-- What two bundles have of a good is at most num/den apart, for each good.
abbrev pub AreWithin : ℕ → FractionBundle → FractionBundle → ℕ → ℕ → Type 0
AreWithin goods x y num den = (g : ℕ) → g < goods
    → (den * (x.num g * y.den) ≤ den * (y.num g * x.den) + num * (x.den * y.den))
    × (den * (y.num g * x.den) ≤ den * (x.num g * y.den) + num * (x.den * y.den))

-- At these prices the bundle costs at most num/den.
abbrev pub CostsAtMost : ℕ → (ℕ → ℕ) → FractionBundle → ℕ → ℕ → Type 0
CostsAtMost goods prices x num den = den * spending goods prices x.num ≤ num * x.den

-- At these prices the bundle costs less than num/den.
abbrev pub CostsLess : ℕ → (ℕ → ℕ) → FractionBundle → ℕ → ℕ → Type 0
CostsLess goods prices x num den = den * spending goods prices x.num < num * x.den

-- The bundle num/den times x.
abbrev pub multiple : ℕ → ℕ → FractionBundle → FractionBundle
multiple num den x = record { den = den * x.den; num = λ g. num * x.num g }

-- The mixture (a x + b y)/(a + b).
abbrev pub mixture : ℕ → ℕ → FractionBundle → FractionBundle → FractionBundle
mixture a b x y = record {
  den = (a + b) * (x.den * y.den);
  num = λ g. a * (x.num g * y.den) + b * (y.num g * x.den);
}
