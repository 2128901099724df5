-- The choices of a table, each held to a level of its own that is any fraction (Varian 1990).
use Rattle.std.specs.Prelude.{ℕ, ◌*◌}
use Rattle.rp_evidence.specs.Input.{TableInput}
use Rattle.rp_evidence.specs.WelfareModels.{bundle_at}
use Rattle.rp_people.specs.Choices.{Choices}

-- Choice s is held to the part num s / den s of what was spent. Prices stand times den s, so that what a bundle costs is
-- compared in whole numbers: it is affordable where den s times its cost is at most num s times what was spent.
abbrev pub choices_at_levels : TableInput → (ℕ → ℕ) → (ℕ → ℕ) → Choices
choices_at_levels input num den = record {
  n = input.n;
  goods = input.goods;
  price = λ s g. den s * input.price s g;
  bundle = bundle_at input;
  scale = 1;
  own = λ s. num s * input.cost s s;
}
