-- Sums of fractions with denominators of their own (arithmetic).
use Rattle.std.specs.Prelude.{ℕ, zero, suc, ◌+◌, ◌*◌}

-- f 0 times f 1 times .. times f (n - 1).
abbrev pub product_below : ℕ → (ℕ → ℕ) → ℕ
product_below zero f = 1
product_below (suc n) f = product_below n f * f n

-- The sum of the fractions num s / den s for the numbers s below n, over the product of their denominators.
abbrev pub fractions_below : ℕ → (ℕ → ℕ) → (ℕ → ℕ) → ℕ
fractions_below zero num den = 0
fractions_below (suc n) num den = fractions_below n num den * den n + num n * product_below n den
