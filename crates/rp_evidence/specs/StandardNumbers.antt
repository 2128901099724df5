-- The Afriat numbers that are given, and where they become too wide. They are the choice of this project among the
-- models of Afriat's theorem: whole numbers, class by class, the classes being the observations of one count.
-- `count s` is the count of observation s; a class is higher where its count is greater. `cost s t` and `own s` are
-- those of Afriat's inequalities, in one scale.
use Rattle.std.specs.Prelude.{◌≡◌, ◌≢◌, ℕ, ◌<◌, ◌≤◌, ◌^◌, ◌⊎◌, List, ℤ, pos, neg_ℤ, ◌≤ℤ◌}
use Rattle.rp_table.specs.OwnLevels.{level_scale, own_by_level}
use Rattle.rp_evidence.specs.Afriat.{allowed_by, in_scale, spent}
use Rattle.rp_evidence.specs.Count.{IsCount}
use Rattle.rp_evidence.specs.Preference.{IsWeak, WeakByLevels}

-- x is the one utility of the observations of that class: 0 in the highest class; in every other class the least that
-- an observation of a higher class allows one of the class.
pub record IsClassUtilityBy (n : ℕ) (cost : ℕ → ℕ → ℕ) (own count : ℕ → ℕ) (utility : ℕ → ℤ) (multiplier : ℕ → ℕ)
    (class : ℕ) (x : ℤ) : Type 0 where
  pub highest : ((s : ℕ) → s < n → count s ≤ class) → x ≡ pos 0
  pub least : (s t : ℕ) → s < n → t < n → class < count s → count t ≡ class
      → x ≤ℤ allowed_by cost own utility multiplier s t
  pub reached : (h : ℕ) → h < n → class < count h
      → (s : ℕ) × (t : ℕ) × (s < n) × (t < n) × (class < count s) × (count t ≡ class)
      × (x ≡ allowed_by cost own utility multiplier s t)

-- With the multiplier k, observation s allows each observation of a higher class its utility.
abbrev pub AllowsHigherBy : ℕ → (ℕ → ℕ → ℕ) → (ℕ → ℕ) → (ℕ → ℕ) → (ℕ → ℤ) → ℕ → ℕ → Type 0
AllowsHigherBy n cost own count utility s k =
    (t : ℕ) → t < n → count s < count t → utility t ≤ℤ allowed_by cost own utility (λ i. k) s t

-- k is the multiplier of s: the least whole number, 1 or more, with which s allows each observation of a higher class
-- its utility. It is 1, or over these t the greatest (U_t - U_s) / (cost(s,t) - own(s)), each rounded up.
pub record IsMultiplierBy (n : ℕ) (cost : ℕ → ℕ → ℕ) (own count : ℕ → ℕ) (utility : ℕ → ℤ) (s k : ℕ) : Type 0 where
  pub at_least_one : 1 ≤ k
  pub enough : AllowsHigherBy n cost own count utility s k
  pub least : (j : ℕ) → 1 ≤ j → AllowsHigherBy n cost own count utility s j → k ≤ j

-- The numbers of t are its class's utility and its multiplier.
pub record AreNumbersBy (n : ℕ) (cost : ℕ → ℕ → ℕ) (own count : ℕ → ℕ) (utility : ℕ → ℤ) (multiplier : ℕ → ℕ)
    (t : ℕ) : Type 0 where
  pub utility_is : IsClassUtilityBy n cost own count utility multiplier (count t) (utility t)
  pub multiplier_is : IsMultiplierBy n cost own count utility t (multiplier t)

-- The standard numbers of n observations, without any width, by the weak steps of a preference.
pub record AreStandardBy (n : ℕ) (weak : ℕ → ℕ → Type 0) (cost : ℕ → ℕ → ℕ) (own count : ℕ → ℕ) (utility : ℕ → ℤ)
    (multiplier : ℕ → ℕ) : Type 0 where
  pub counts : (s : ℕ) → s < n → IsCount n weak s (count s)
  pub each : (t : ℕ) → t < n → AreNumbersBy n cost own count utility multiplier t

-- Those at the level 1.
abbrev pub AreStandardNumbers : ℕ → (ℕ → ℕ → ℕ) → (ℕ → ℕ) → (ℕ → ℤ) → (ℕ → ℕ) → Type 0
AreStandardNumbers n c = AreStandardBy n (IsWeak c) c (spent c)

-- Those where the observations have these levels, or none.
abbrev pub AreOwnStandardNumbers : ℕ → List ℕ → (ℕ → ℕ → ℕ) → (ℕ → ℕ) → (ℕ → ℤ) → (ℕ → ℕ) → Type 0
AreOwnStandardNumbers n levels c =
    AreStandardBy n (WeakByLevels levels c) (in_scale (level_scale levels) c) (own_by_level levels c)

-- A utility within its width: at most 2^120 in absolute value.
abbrev pub FitsUtility : ℤ → Type 0
FitsUtility x = (neg_ℤ (pos (2 ^ 120)) ≤ℤ x) × (x ≤ℤ pos (2 ^ 120))

-- A multiplier within its width: at most 2^60.
abbrev pub FitsMultiplier : ℕ → Type 0
FitsMultiplier k = k ≤ 2 ^ 60

-- All numbers are within their widths.
abbrev pub AllFit : ℕ → (ℕ → ℤ) → (ℕ → ℕ) → Type 0
AllFit n utility multiplier = (s : ℕ) → s < n → FitsUtility (utility s) × FitsMultiplier (multiplier s)

-- The numbers pass their width first at t. They are looked at class by class, the highest before the others: the
-- utility of the class, which stands at its first observation, and then each multiplier by observation.
pub record PassWidthFirstAt (n : ℕ) (count : ℕ → ℕ) (utility : ℕ → ℤ) (multiplier : ℕ → ℕ) (t : ℕ) : Type 0 where
  pub observed : t < n
  pub higher_fit : (s : ℕ) → s < n → count t < count s → FitsUtility (utility s) × FitsMultiplier (multiplier s)
  pub passes :
      ((¬ FitsUtility (utility t)) × ((s : ℕ) → s < t → count s ≢ count t))
      ⊎ (FitsUtility (utility t) × (¬ FitsMultiplier (multiplier t))
      × ((s : ℕ) → s < t → count s ≡ count t → FitsMultiplier (multiplier s)))
