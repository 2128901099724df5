-- Afriat's numbers and the utility that they give (Afriat 1967; Varian 1982, Afriat's theorem).
-- `cost s t` is what the bundle of observation t costs at the prices of observation s, and `own s` is what s is held
-- to; both stand in one scale. Without levels of the observations' own they are `c s t` and `c s s`.
use Rattle.std.specs.Prelude.{◌≡◌, ℕ, ◌*◌, ◌<◌, ◌≤◌, List, ℤ, pos, ◌+ℤ◌, ◌-ℤ◌, ◌*ℤ◌, ◌≤ℤ◌}
use Rattle.rp_table.specs.OwnLevels.{level_scale, own_by_level}

-- What was spent at an observation.
abbrev pub spent : (ℕ → ℕ → ℕ) → ℕ → ℕ
spent c s = c s s

-- What a bundle costs in a scale.
abbrev pub in_scale : ℕ → (ℕ → ℕ → ℕ) → ℕ → ℕ → ℕ
in_scale scale c s t = scale * c s t

-- What the numbers of s allow t to have: U_s + λ_s (cost(s,t) - own(s)).
abbrev pub allowed_by : (ℕ → ℕ → ℕ) → (ℕ → ℕ) → (ℕ → ℤ) → (ℕ → ℕ) → ℕ → ℕ → ℤ
allowed_by cost own utility multiplier s t = utility s +ℤ (pos (multiplier s) *ℤ (pos (cost s t) -ℤ pos (own s)))

-- A model: whole numbers U_t, and λ_t from 1 on, such that any s and t have U_t ≤ U_s + λ_s (cost(s,t) - own(s)).
pub record IsModelBy (n : ℕ) (cost : ℕ → ℕ → ℕ) (own : ℕ → ℕ) (utility : ℕ → ℤ) (multiplier : ℕ → ℕ) : Type 0 where
  pub at_least_one : (s : ℕ) → s < n → 1 ≤ multiplier s
  pub none_above : (s t : ℕ) → s < n → t < n → utility t ≤ℤ allowed_by cost own utility multiplier s t

abbrev pub IsAfriatModel : ℕ → (ℕ → ℕ → ℕ) → (ℕ → ℤ) → (ℕ → ℕ) → Type 0
IsAfriatModel n c = IsModelBy n c (spent c)

-- A model where the observations have these levels, or none.
abbrev pub IsOwnModel : ℕ → List ℕ → (ℕ → ℕ → ℕ) → (ℕ → ℤ) → (ℕ → ℕ) → Type 0
IsOwnModel n levels c = IsModelBy n (in_scale (level_scale levels) c) (own_by_level levels c)

-- What the numbers of s allow a bundle to have, times den: den U_s + λ_s (cost(s) - den own(s)). The bundle is a
-- fraction over den, and `cost s` is what its numerators cost at the prices of s, in the scale of `own`.
abbrev pub allowed_for_by : (ℕ → ℕ) → (ℕ → ℤ) → (ℕ → ℕ) → ℕ → (ℕ → ℕ) → ℕ → ℤ
allowed_for_by own utility multiplier den cost s =
    (pos den *ℤ utility s) +ℤ (pos (multiplier s) *ℤ (pos (cost s) -ℤ pos (den * own s)))

-- The utility of a bundle over den, times den: the least that the numbers of an observation allow it.
pub record IsUtilityBy (n : ℕ) (own : ℕ → ℕ) (utility : ℕ → ℤ) (multiplier : ℕ → ℕ) (den : ℕ) (cost : ℕ → ℕ)
    (value : ℤ) : Type 0 where
  pub reached : (s : ℕ) × (s < n) × (value ≡ allowed_for_by own utility multiplier den cost s)
  pub least : (s : ℕ) → s < n → value ≤ℤ allowed_for_by own utility multiplier den cost s

-- Just one number has the property.
abbrev pub HasJustOne : (ℤ → Type 0) → Type 0
HasJustOne P = (x : ℤ) × P x × ((y : ℤ) → P y → y ≡ x)

abbrev pub IsUtility : ℕ → (ℕ → ℕ → ℕ) → (ℕ → ℤ) → (ℕ → ℕ) → ℕ → (ℕ → ℕ) → ℤ → Type 0
IsUtility n c = IsUtilityBy n (spent c)

-- The utility where the observations have these levels, or none; `cost s` is what the numerators cost, without a scale.
abbrev pub IsOwnUtility : ℕ → List ℕ → (ℕ → ℕ → ℕ) → (ℕ → ℤ) → (ℕ → ℕ) → ℕ → (ℕ → ℕ) → ℤ → Type 0
IsOwnUtility n levels c utility multiplier den cost =
    IsUtilityBy n (own_by_level levels c) utility multiplier den (λ s. level_scale levels * cost s)
