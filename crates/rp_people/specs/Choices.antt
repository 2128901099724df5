-- Choices of bundles at prices, and what they are held to (Varian 1982, section 1; held to a part of what was spent
-- after Afriat 1973 and Varian 1990).
use Rattle.std.specs.Prelude.{ℕ, ◌<◌, ◌≤◌}
use Rattle.rp_evidence.specs.Demand.{FractionBundle}
use Rattle.rp_evidence.specs.Garp.{HasNoViolation}
use Rattle.rp_people.specs.Bundles.{CostsAtMost, CostsLess, IsBundle}

-- n choices among bundles of these goods: `price s g` is the price of good g at choice s, `bundle s` what was chosen
-- there, and `own s / scale` what the choice is held to. Held to all that was spent, that is what its bundle costs.
pub record Choices : Type 0 where
  pub n : ℕ
  pub goods : ℕ
  pub price : ℕ → ℕ → ℕ
  pub bundle : ℕ → FractionBundle
  pub scale : ℕ
  pub own : ℕ → ℕ

-- There are choices and goods, no price is 0, what was chosen are bundles, and the scale is positive.
pub record AreChoices (choices : Choices) : Type 0 where
  pub some : 1 ≤ choices.n
  pub some_goods : 1 ≤ choices.goods
  pub positive_prices : (s g : ℕ) → s < choices.n → g < choices.goods → 1 ≤ choices.price s g
  pub bundles : (s : ℕ) → s < choices.n → IsBundle (choices.bundle s)
  pub positive_scale : 1 ≤ choices.scale

-- At the prices of s a bundle costs at most what s is held to.
abbrev pub IsAffordable : Choices → ℕ → FractionBundle → Type 0
IsAffordable choices s x = CostsAtMost choices.goods (choices.price s) x (choices.own s) choices.scale

-- At the prices of s a bundle costs less than what s is held to.
abbrev pub IsCheaper : Choices → ℕ → FractionBundle → Type 0
IsCheaper choices s x = CostsLess choices.goods (choices.price s) x (choices.own s) choices.scale

-- The choice s is weakly, or strictly, preferred to t: the bundle of t costs at most, or less than, what s is held to.
abbrev pub IsWeakChoice : Choices → ℕ → ℕ → Type 0
IsWeakChoice choices s t = IsAffordable choices s (choices.bundle t)

abbrev pub IsStrictChoice : Choices → ℕ → ℕ → Type 0
IsStrictChoice choices s t = IsCheaper choices s (choices.bundle t)

-- The generalized axiom of revealed preference on choices (Varian 1982): no closed walk of weak steps has a strict one.
abbrev pub MeetAxiom : Choices → Type 0
MeetAxiom choices = HasNoViolation choices.n (IsWeakChoice choices) (IsStrictChoice choices)
