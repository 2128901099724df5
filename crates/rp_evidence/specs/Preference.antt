-- Preference that choices reveal, at a level (Varian 1982; levels below 1 after Afriat; a level of each observation's
-- own after Varian 1990, "Goodness-of-fit in optimizing models").
-- `c s t` is what the bundle of observation t costs at the prices of observation s.
use Rattle.std.specs.Prelude.{◌≡◌, ℕ, ◌*◌, ◌<◌, ◌≤◌, List}
use Rattle.rp_table.specs.OwnLevels.{level_scale, own_by_level}

-- s is weakly preferred to t: at the prices of s, t costs no more than what s is held to. Both are in one scale:
-- `own s` is the part of what was spent at s that counts, times `scale`.
abbrev pub IsOwnWeak : ℕ → (ℕ → ℕ) → (ℕ → ℕ → ℕ) → ℕ → ℕ → Type 0
IsOwnWeak scale own c s t = scale * c s t ≤ own s

-- s is strictly preferred to t: at the prices of s, t costs less than that.
abbrev pub IsOwnStrict : ℕ → (ℕ → ℕ) → (ℕ → ℕ → ℕ) → ℕ → ℕ → Type 0
IsOwnStrict scale own c s t = scale * c s t < own s

-- The same where the observations have these levels, or, where they have none, are held to all that they spent.
abbrev pub WeakByLevels : List ℕ → (ℕ → ℕ → ℕ) → ℕ → ℕ → Type 0
WeakByLevels levels c = IsOwnWeak (level_scale levels) (own_by_level levels c) c

abbrev pub StrictByLevels : List ℕ → (ℕ → ℕ → ℕ) → ℕ → ℕ → Type 0
StrictByLevels levels c = IsOwnStrict (level_scale levels) (own_by_level levels c) c

-- num/den is a level: above 0 and at most 1.
abbrev pub IsLevel : ℕ → ℕ → Type 0
IsLevel num den = (0 < num) × (num ≤ den)

-- At the level num/den, s is weakly preferred to t: at the prices of s, t costs no more than that part of what was
-- spent at s.
abbrev pub IsWeakAt : (ℕ → ℕ → ℕ) → ℕ → ℕ → ℕ → ℕ → Type 0
IsWeakAt c num den s t = IsOwnWeak den (λ i. num * c i i) c s t

-- At the level num/den, s is strictly preferred to t: at the prices of s, t costs less than that part of what was
-- spent at s.
abbrev pub IsStrictAt : (ℕ → ℕ → ℕ) → ℕ → ℕ → ℕ → ℕ → Type 0
IsStrictAt c num den s t = IsOwnStrict den (λ i. num * c i i) c s t

-- s is directly revealed preferred to t: at the prices of s, t costs no more than what was spent at s.
abbrev pub IsWeak : (ℕ → ℕ → ℕ) → ℕ → ℕ → Type 0
IsWeak c = IsWeakAt c 1 1

-- s is strictly directly revealed preferred to t: at the prices of s, t costs less than what was spent at s.
abbrev pub IsStrict : (ℕ → ℕ → ℕ) → ℕ → ℕ → Type 0
IsStrict c = IsStrictAt c 1 1

-- Two tables of costs are the same between the n observations.
abbrev pub AgreeBelow : ℕ → (ℕ → ℕ → ℕ) → (ℕ → ℕ → ℕ) → Type 0
AgreeBelow n c d = (s t : ℕ) → s < n → t < n → c s t ≡ d s t
