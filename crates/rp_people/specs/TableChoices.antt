-- The choices that a table tells of: the bundles in whole numbers, held to what was spent, to a part of it that is
-- common to all, or to that of each observation's own level (Varian 1982; Afriat 1973; Varian 1990).
use Rattle.std.specs.Prelude.{ℕ, ◌*◌, ◌<◌, ◌≤◌}
use Rattle.rp_table.specs.OwnLevels.{level_scale, own_by_level}
use Rattle.rp_evidence.specs.Input.{TableInput}
use Rattle.rp_evidence.specs.WelfareModels.{bundle_at}
use Rattle.rp_people.specs.Choices.{Choices}

-- Held to own s / scale.
abbrev pub choices_held_to : TableInput → ℕ → (ℕ → ℕ) → Choices
choices_held_to input scale own = record {
  n = input.n;
  goods = input.goods;
  price = input.price;
  bundle = bundle_at input;
  scale = scale;
  own = own;
}

-- Held by the levels of the observations' own, where they have them, and else to all that was spent.
abbrev pub choices_of : TableInput → Choices
choices_of input = choices_held_to input (level_scale input.levels) (own_by_level input.levels input.cost)

-- Held to the part num/den of what was spent.
abbrev pub choices_at : TableInput → ℕ → ℕ → Choices
choices_at input num den = choices_held_to input den (λ s. num * input.cost s s)

-- An input as a table within its limits gives one: there are observations and goods, no price is 0, and no bundle is
-- empty, so that each costs something at all prices.
pub record IsFullInput (input : TableInput) : Type 0 where
  pub some : 1 ≤ input.n
  pub some_goods : 1 ≤ input.goods
  pub positive_prices : (s g : ℕ) → s < input.n → g < input.goods → 1 ≤ input.price s g
  pub positive_costs : (s t : ℕ) → s < input.n → t < input.n → 1 ≤ input.cost s t
