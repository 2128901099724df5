-- Utility that is linear in money (Brown and Calsamiglia 2007, "The nonparametric approach to applied welfare
-- analysis"): what a bundle is worth, less what it costs.
use Rattle.std.specs.Prelude.{ℕ, ◌<◌}
use Rattle.rp_table.specs.Spending.{spending}
use Rattle.rp_evidence.specs.Demand.{FractionBundle}
use Rattle.rp_people.specs.Bundles.{IsBundle}
use Rattle.rp_people.specs.Choices.{Choices}
use Rattle.rp_people.specs.Fractions.{IsAtMost, SignedFraction, less}
use Rattle.rp_people.specs.Utilities.{IsConcaveUtility}

-- What a bundle is worth less what it costs at these prices.
abbrev pub gain : ℕ → (ℕ → ℕ) → (FractionBundle → SignedFraction) → FractionBundle → SignedFraction
gain goods prices worth x = less (worth x) (spending goods prices x.num) x.den

-- A function from bundles to fractions rationalizes choices with money where at the prices of each choice no bundle
-- gains more than the one that was chosen.
pub record RationalizesWithMoney (choices : Choices) (worth : FractionBundle → SignedFraction) : Type 0 where
  pub fraction : (x : FractionBundle) → IsBundle x → 0 < (worth x).den
  pub none_gains_more : (s : ℕ) (x : FractionBundle) → s < choices.n → IsBundle x
      → IsAtMost (gain choices.goods (choices.price s) worth x)
      (gain choices.goods (choices.price s) worth (choices.bundle s))

-- Some function rationalizes the choices with money.
pub record HasWorth (choices : Choices) : Type 0 where
  pub worth : FractionBundle → SignedFraction
  pub rationalizes : RationalizesWithMoney choices worth

-- Some strictly monotone and concave one, the same for bundles that are equal in value, does.
pub record HasConcaveWorth (choices : Choices) : Type 0 where
  pub worth : FractionBundle → SignedFraction
  pub concave_utility : IsConcaveUtility choices.goods worth
  pub rationalizes : RationalizesWithMoney choices worth
