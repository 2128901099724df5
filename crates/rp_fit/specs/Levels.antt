-- Levels of each observation's own, and how little they have to fall below 1 (Varian 1990, "Goodness-of-fit in
-- optimizing models"; the mean and the sum of squares as in Halevy, Persitz and Zrill 2018).
use Rattle.std.specs.Prelude.{◌<◌, ◌≤◌, ◌+◌, ◌*◌, ◌-◌, ◌^◌, ℕ}
use Rattle.rp_evidence.specs.Garp.{HasNoViolation}
use Rattle.rp_evidence.specs.Preference.{IsLevel, IsStrictAt, IsWeakAt}
use Rattle.rp_fit.specs.Fractions.{fractions_below, product_below}

-- A vector of levels, num s / den s of observation s: fractions above 0 and at most 1, with any denominators.
abbrev pub AreLevels : ℕ → (ℕ → ℕ) → (ℕ → ℕ) → Type 0
AreLevels n num den = (s : ℕ) → s < n → IsLevel (num s) (den s)

-- The axiom holds where each observation is held to its level: no walk is a violation, however long.
abbrev pub MeetsGarpAtLevels : ℕ → (ℕ → ℕ → ℕ) → (ℕ → ℕ) → (ℕ → ℕ) → Type 0
MeetsGarpAtLevels n c num den =
    HasNoViolation n (λ s t. IsWeakAt c (num s) (den s) s t) (λ s t. IsStrictAt c (num s) (den s) s t)

-- What a level lacks of 1, to a power, as a fraction: (1 - num/den)^power. The power is 1 for the mean and 2 for the
-- mean of squares.
abbrev pub lack : ℕ → (ℕ → ℕ) → (ℕ → ℕ) → ℕ → ℕ
lack power num den s = (den s - num s) ^ power

abbrev pub lack_den : ℕ → (ℕ → ℕ) → ℕ → ℕ
lack_den power den s = den s ^ power

-- The sum of what all levels lack, and the number of the observations, both times the same positive number: their
-- quotient is the mean.
abbrev pub lack_sum : ℕ → ℕ → (ℕ → ℕ) → (ℕ → ℕ) → ℕ
lack_sum power n num den = fractions_below n (lack power num den) (lack_den power den)

abbrev pub lack_parts : ℕ → ℕ → (ℕ → ℕ) → ℕ
lack_parts power n den = n * product_below n (lack_den power den)

-- The levels lack at least a/b in the mean.
abbrev pub LackAtLeast : ℕ → ℕ → (ℕ → ℕ) → (ℕ → ℕ) → ℕ → ℕ → Type 0
LackAtLeast power n num den a b = a * lack_parts power n den ≤ lack_sum power n num den * b

-- The levels lack at most a/b in the mean.
abbrev pub LackAtMost : ℕ → ℕ → (ℕ → ℕ) → (ℕ → ℕ) → ℕ → ℕ → Type 0
LackAtMost power n num den a b = lack_sum power n num den * b ≤ a * lack_parts power n den

-- The index is at least a/b: all levels at which the axiom holds lack at least that in the mean.
abbrev pub IndexIsAtLeast : ℕ → ℕ → (ℕ → ℕ → ℕ) → ℕ → ℕ → Type 0
IndexIsAtLeast power n c a b = (num den : ℕ → ℕ) → AreLevels n num den → MeetsGarpAtLevels n c num den
    → LackAtLeast power n num den a b

-- The index is at most a/b: for each k from 1 on the axiom holds at some levels that lack at most a/b + 1/k in the
-- mean.
abbrev pub IndexIsAtMost : ℕ → ℕ → (ℕ → ℕ → ℕ) → ℕ → ℕ → Type 0
IndexIsAtMost power n c a b = (k : ℕ) → 1 ≤ k → (num : ℕ → ℕ) × (den : ℕ → ℕ) × AreLevels n num den
    × MeetsGarpAtLevels n c num den × LackAtMost power n num den (a * k + b) (b * k)

-- The index is a/b: the infimum of what levels lack in the mean at which the axiom holds.
pub record IsLevelsIndex (power n : ℕ) (c : ℕ → ℕ → ℕ) (a b : ℕ) : Type 0 where
  pub positive : 1 ≤ b
  pub at_least : IndexIsAtLeast power n c a b
  pub at_most : IndexIsAtMost power n c a b

-- The levels num'/den' are below num/den at each observation.
abbrev pub AreBelow : ℕ → (ℕ → ℕ) → (ℕ → ℕ) → (ℕ → ℕ) → (ℕ → ℕ) → Type 0
AreBelow n num' den' num den = (s : ℕ) → s < n → num' s * den s < num s * den' s
