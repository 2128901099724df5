-- Laws of what a bundle costs.
use Rattle.std.proofs.Common.{◌≡◌, ℕ, ◌<◌, ◌≤◌, refl, arith}
use Rattle.rp_table.specs.Spending.{spending}
use Rattle.rp_table.specs.Sums.{sum_below}
use Rattle.rp_table.proofs.SumsBelow.{sum_below-same}

-- the same prices and quantities of the same goods cost the same
pub spending-same : (n goods : ℕ) (p q price quantity : ℕ → ℕ) → n ≡ goods → ((g : ℕ) → g < goods → p g ≡ price g)
    → ((g : ℕ) → g < goods → q g ≡ quantity g) → spending n p q ≡ spending goods price quantity
spending-same n goods p q price quantity as_many prices quantities =
    rw as_many (sum_below-same _ _ goods (λ g within. rw (prices g within, quantities g within) refl))

-- where some of a good is bought, the bundle costs something
pub some_bought : (n goods total : ℕ) (q quantity : ℕ → ℕ) → n ≡ goods → ((g : ℕ) → g < goods → q g ≡ quantity g)
    → 1 ≤ sum_below goods quantity → sum_below n q ≤ total → 1 ≤ total
some_bought n goods total q quantity as_many quantities some least =
    let same : sum_below n q ≡ sum_below goods quantity = rw as_many (sum_below-same q quantity goods quantities) in
    omega (arith, same, some, least)
