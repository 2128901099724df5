-- Products that are rounded down to 60 binary digits (this project's own).
use Rattle.std.specs.Prelude.{ℕ, ◌+◌, ◌*◌, ◌^◌, ◌<◌, ◌≤◌, ◌⊎◌}
use Rattle.rp_num.specs.Fraction.{Fraction, IsLowestTerms}

-- The number lead/2^places is the greatest over that power of two that is not above num/den, and its numerator has
-- 60 binary digits.
pub record IsLeading (num den lead places : ℕ) : Type 0 where
  pub from : 2 ^ 59 ≤ lead
  pub below : lead < 2 ^ 60
  pub not_above : lead * den ≤ num * 2 ^ places
  pub greatest : num * 2 ^ places < (lead + 1) * den

-- The fraction f is num/den rounded down to 60 binary digits, in lowest terms.
pub record IsRoundedDown (num den : ℕ) (f : Fraction) : Type 0 where
  pub lead : ℕ
  pub places : ℕ
  pub leading : IsLeading num den lead places
  pub lowest : IsLowestTerms lead (2 ^ places) f

-- The fraction f is num/den itself, in lowest terms, or that rounded down.
abbrev pub IsKeptOrRounded : ℕ → ℕ → Fraction → Type 0
IsKeptOrRounded num den f = IsLowestTerms num den f ⊎ IsRoundedDown num den f
