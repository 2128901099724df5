-- Numbers of goods that are drawn at random (after Bronars 1987, "The Power of Nonparametric Tests of Preference
-- Maximization", Econometrica; how words become numbers is this project's own).
use Rattle.std.specs.Prelude.{ℕ, ◌%◌, ◌==◌, ◌&&◌, if◌then◌else◌}
use Rattle.rp_table.specs.Sums.{sum_below}

-- a number for each good, of which the first is 1 where all of them are 0
abbrev pub not_all_zero : ℕ → (ℕ → ℕ) → ℕ → ℕ
not_all_zero goods number g = if (sum_below goods number == 0) && (g == 0) then 1 else number g

-- the number of each good by its word: the word modulo 100, and 1 for the first good where all are 0
abbrev pub drawn_numbers : ℕ → (ℕ → ℕ) → ℕ → ℕ
drawn_numbers goods word = not_all_zero goods (λ g. word g % 100)
