-- The utility of Afriat's numbers (Afriat 1967; Varian 1982, Afriat's theorem), over bundles of fractions: the least
-- that the numbers of a choice allow a bundle.
use Rattle.std.specs.Prelude.{◌≡◌, ℕ, ◌*◌, ◌<◌, ◌≤◌, ℤ, pos, ◌*ℤ◌, ◌≤ℤ◌}
use Rattle.rp_table.specs.Spending.{spending}
use Rattle.rp_evidence.specs.Afriat.{IsUtilityBy, allowed_for_by}
use Rattle.rp_evidence.specs.Demand.{FractionBundle}
use Rattle.rp_people.specs.Bundles.{IsBundle}
use Rattle.rp_people.specs.Choices.{Choices}
use Rattle.rp_people.specs.Fractions.{SignedFraction}
use Rattle.rp_people.specs.Rationalizing.{Rationalizes}
use Rattle.rp_people.specs.Utilities.{IsConcaveUtility, preference_of}

-- What the numerators of a bundle cost at the prices of s, in the scale of the choices.
abbrev pub scaled_cost : Choices → FractionBundle → ℕ → ℕ
scaled_cost choices x s = choices.scale * spending choices.goods (choices.price s) x.num

-- An Afriat model of the choices: whole numbers U_t, and λ_t from 1 on, such that no choice s allows the bundle of t
-- less than U_t. Over the denominator of that bundle: den U_t ≤ den U_s + λ_s (cost(s,t) - den own(s)).
pub record IsModelOfChoices (choices : Choices) (number : ℕ → ℤ) (multiplier : ℕ → ℕ) : Type 0 where
  pub at_least_one : (s : ℕ) → s < choices.n → 1 ≤ multiplier s
  pub none_above : (s t : ℕ) → s < choices.n → t < choices.n
      → (pos (choices.bundle t).den *ℤ number t)
      ≤ℤ allowed_for_by choices.own number multiplier (choices.bundle t).den (scaled_cost choices (choices.bundle t)) s

-- This utility is that of the numbers.
pub record IsUtilityOfNumbers (choices : Choices) (number : ℕ → ℤ) (multiplier : ℕ → ℕ)
    (utility : FractionBundle → SignedFraction) : Type 0 where
  pub over : (x : FractionBundle) → IsBundle x → (utility x).den ≡ x.den
  pub least : (x : FractionBundle) → IsBundle x
      → IsUtilityBy choices.n choices.own number multiplier x.den (scaled_cost choices x) (utility x).num

-- The numbers have a utility, it is strictly monotone and concave, and its preference rationalizes the choices.
pub record HaveUtility (choices : Choices) (number : ℕ → ℤ) (multiplier : ℕ → ℕ) : Type 0 where
  pub utility : FractionBundle → SignedFraction
  pub of_numbers : IsUtilityOfNumbers choices number multiplier utility
  pub concave_utility : IsConcaveUtility choices.goods utility
  pub rationalizes : Rationalizes choices (preference_of utility)
