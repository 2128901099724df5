-- What a bundle costs (Varian 1982, section 1).
use Rattle.std.specs.Prelude.{ℕ, ◌*◌}
use Rattle.rp_table.specs.Sums.{sum_below}

-- what a bundle costs at prices, both given by good: the sum over the goods of price times quantity
abbrev pub spending : ℕ → (ℕ → ℕ) → (ℕ → ℕ) → ℕ
spending goods prices bundle = sum_below goods (λ g. prices g * bundle g)
