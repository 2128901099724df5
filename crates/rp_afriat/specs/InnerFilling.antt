-- How far the numbers of a table are filled in: words that only the loops and the inner functions of this crate need.
use Rattle.std.specs.Prelude.{◌≡◌, ℕ, ◌*◌, ◌<◌, ◌≤◌, List, length, ℤ, pos, ◌≤ℤ◌, Option, None, Some, MatchOption}
use Rattle.std.specs.Prelude.{slice_index, slice_index_or}
use Rattle.std.specs.Int.{int_min}
use Rattle.rp_evidence.specs.Afriat.{allowed_by}
use Rattle.rp_evidence.specs.StandardNumbers.{AreNumbersBy, AreStandardBy, FitsMultiplier, FitsUtility}
use Rattle.rp_evidence.specs.StandardNumbers.{IsMultiplierBy, PassWidthFirstAt}
use Rattle.rp_table.specs.Cost.{CostTable, cost_at, own_of, scale_of}

-- what bundle t costs at prices s, in the scale of the levels
abbrev pub scaled_at : CostTable → ℕ → ℕ → ℕ
scaled_at costs s t = scale_of costs * cost_at costs s t

-- the utility of an observation; past the last it is 0
abbrev pub utility_of : List ℤ → ℕ → ℤ
utility_of u s = slice_index_or u s (pos 0)

-- counts, utilities and multipliers of n observations
pub record AreForEach (n : ℕ) (counts : List ℕ) (u : List ℤ) (lambda : List ℕ) : Type 0 where
  pub counts_each : length counts ≡ n
  pub utilities_each : length u ≡ n
  pub multipliers_each : length lambda ≡ n

-- the numbers of higher classes are within their widths
abbrev pub FitAbove : ℕ → List ℕ → List ℤ → List ℕ → ℕ → Type 0
FitAbove n counts u lambda class =
    (s : ℕ) → s < n → class < slice_index counts s
    → FitsUtility (utility_of u s) × FitsMultiplier (slice_index lambda s)

-- the numbers of higher classes are the standard ones
abbrev pub AreFilledAbove : ℕ → (ℕ → ℕ → ℕ) → (ℕ → ℕ) → List ℕ → List ℤ → List ℕ → ℕ → Type 0
AreFilledAbove n cost own counts u lambda class =
    (t : ℕ) → t < n → class < slice_index counts t
    → AreNumbersBy n cost own (slice_index counts) (utility_of u) (slice_index lambda) t

-- x is what some observation below n of a higher class allows t
abbrev pub IsAllowed : ℕ → (ℕ → ℕ → ℕ) → (ℕ → ℕ) → List ℕ → List ℤ → List ℕ → ℕ → ℕ → ℤ → Type 0
IsAllowed n cost own counts u lambda class t x =
    (s : ℕ) × (s < n) × (class < slice_index counts s)
    × (x ≡ allowed_by cost own (utility_of u) (slice_index lambda) s t)

-- x is what some observation of a higher class allows one below m of this class
abbrev pub IsAllowedInClass : ℕ → ℕ → (ℕ → ℕ → ℕ) → (ℕ → ℕ) → List ℕ → List ℤ → List ℕ → ℕ → ℤ → Type 0
IsAllowedInClass m n cost own counts u lambda class x =
    (t : ℕ) × (t < m) × (slice_index counts t ≡ class) × IsAllowed n cost own counts u lambda class t x

-- the least of the numbers that meet P, or nothing where none does
abbrev pub IsLeastOf : (ℤ → Type 0) → Option ℤ → Type 0
IsLeastOf P found = MatchOption found ((x : ℤ) → ¬ P x) (λ x. P x × ((y : ℤ) → P y → x ≤ℤ y))

-- the lesser of two numbers, where there are any
abbrev pub lesser_of : Option ℤ → Option ℤ → Option ℤ
lesser_of None b = b
lesser_of (Some x) None = Some x
lesser_of (Some x) (Some y) = Some (int_min x y)

-- k is the ceiling of difference over extra, none below 0: the least whole number with difference ≤ k · extra
pub record IsCeiling (difference : ℤ) (extra k : ℕ) : Type 0 where
  pub enough : difference ≤ℤ pos (k * extra)
  pub least : (j : ℕ) → difference ≤ℤ pos (j * extra) → k ≤ j

-- the utilities of a class are x, and all others are as they were
pub record IsClassSet (n : ℕ) (counts : List ℕ) (class : ℕ) (x : ℤ) (before after : List ℤ) : Type 0 where
  pub as_long : length after ≡ length before
  pub set : (t : ℕ) → t < n → slice_index counts t ≡ class → utility_of after t ≡ x
  pub kept : (t : ℕ) → t < n → ¬ (slice_index counts t ≡ class) → utility_of after t ≡ utility_of before t

-- below m the multipliers of a class are set and fit, and all others are as they were
pub record AreMultipliersSet (m n : ℕ) (cost : ℕ → ℕ → ℕ) (own : ℕ → ℕ) (counts : List ℕ) (class : ℕ) (u : List ℤ)
    (before after : List ℕ) : Type 0 where
  pub as_long : length after ≡ length before
  pub set : (s : ℕ) → s < m → slice_index counts s ≡ class
      → IsMultiplierBy n cost own (slice_index counts) (utility_of u) s (slice_index after s)
      × FitsMultiplier (slice_index after s)
  pub kept : (s : ℕ) → s < n → ¬ (slice_index counts s ≡ class) → slice_index after s ≡ slice_index before s

-- at is of the class and its multiplier is too wide
abbrev pub IsTooSteep : ℕ → (ℕ → ℕ → ℕ) → (ℕ → ℕ) → List ℕ → ℕ → List ℤ → ℕ → Type 0
IsTooSteep n cost own counts class u at =
    (at < n) × (slice_index counts at ≡ class)
    × ((k : ℕ) × IsMultiplierBy n cost own (slice_index counts) (utility_of u) at k × (¬ FitsMultiplier k))

-- over these costs, those below m of a class are given their multipliers, by these counts and utilities
abbrev pub SetsMultipliers : CostTable → List ℕ → ℕ → List ℤ → List ℕ → List ℕ → ℕ → Type 0
SetsMultipliers costs counts class u before after m =
    AreMultipliersSet m costs.n (scaled_at costs) (own_of costs) counts class u before after

-- over these costs, at is of the class and its multiplier is too wide
abbrev pub PassesMultiplier : CostTable → List ℕ → ℕ → List ℤ → ℕ → Type 0
PassesMultiplier costs counts class u at = IsTooSteep costs.n (scaled_at costs) (own_of costs) counts class u at

-- the standard numbers, which go on past the widths, pass them first at t
abbrev pub StandardNumbersPassAt : ℕ → (ℕ → ℕ → Type 0) → (ℕ → ℕ → ℕ) → (ℕ → ℕ) → List ℕ → ℕ → Type 0
StandardNumbersPassAt n weak cost own counts t =
    (utility : ℕ → ℤ) (multiplier : ℕ → ℕ) → AreStandardBy n weak cost own (slice_index counts) utility multiplier
    → PassWidthFirstAt n (slice_index counts) utility multiplier t
