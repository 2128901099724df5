-- How often choices contradict each other, by ordered pairs of observations (Swofford and Whitney 1987; Famulari 1995).
-- The axioms: Samuelson 1938 (WARP), Houthakker 1950 (SARP), Varian 1982 (GARP).
use Rattle.std.specs.Prelude.{◌≡◌, ◌≢◌, ◌<◌, ◌⊎◌, ◌*◌, ◌-◌, ℕ}
use Rattle.rp_evidence.specs.Count.{IsNumberOf}
use Rattle.rp_evidence.specs.Input.{TableInput}
use Rattle.rp_evidence.specs.Preference.{IsStrict, IsWeak}
use Rattle.rp_evidence.specs.Walk.{Reaches}
use Rattle.rp_table.specs.Sums.{sum_below}

-- The bundles of s and t are the same: they have as much of each good.
abbrev pub SameBundle : TableInput → ℕ → ℕ → Type 0
SameBundle input s t = (g : ℕ) → g < input.goods → input.quantity s g ≡ input.quantity t g

-- The pair violates GARP: a walk of weak steps leads from s to t, and t is strictly directly preferred to s.
abbrev pub IsGarpPair : TableInput → ℕ → ℕ → Type 0
IsGarpPair input s t = (s ≢ t) × Reaches input.n (IsWeak input.cost) s t × IsStrict input.cost t s

-- The pair violates the weak form of GARP: a weak step leads from s to t, and t is strictly directly preferred to s.
abbrev pub IsWeakGarpPair : TableInput → ℕ → ℕ → Type 0
IsWeakGarpPair input s t = (s ≢ t) × IsWeak input.cost s t × IsStrict input.cost t s

-- The pair violates WARP: each is weakly directly preferred to the other, and the bundles differ.
abbrev pub IsWarpPair : TableInput → ℕ → ℕ → Type 0
IsWarpPair input s t = (s ≢ t) × IsWeak input.cost s t × IsWeak input.cost t s × (¬ SameBundle input s t)

-- The pair violates SARP: a walk of weak steps leads from s to t, t is weakly directly preferred to s, and the bundles
-- differ.
abbrev pub IsSarpPair : TableInput → ℕ → ℕ → Type 0
IsSarpPair input s t =
    (s ≢ t) × Reaches input.n (IsWeak input.cost) s t × IsWeak input.cost t s × (¬ SameBundle input s t)

-- k is the number of ordered pairs of the n observations that stand in the relation: for each first observation the
-- number of second ones, all added.
pub record IsNumberOfPairs (n : ℕ) (relation : ℕ → ℕ → Type 0) (k : ℕ) : Type 0 where
  pub seconds : ℕ → ℕ
  pub each : (s : ℕ) → s < n → IsNumberOf n (relation s) (seconds s)
  pub sum : sum_below n seconds ≡ k

-- How many ordered pairs of two of the n observations there are.
abbrev pub all_pairs : ℕ → ℕ
all_pairs n = n * (n - 1)

-- Observation s is the first or the second of some pair that violates GARP.
abbrev pub IsInGarpPair : TableInput → ℕ → Type 0
IsInGarpPair input s = (t : ℕ) × (t < input.n) × (IsGarpPair input s t ⊎ IsGarpPair input t s)

-- These are the numbers of pairs that violate each axiom, and of the observations in some pair that violates GARP.
pub record AreViolationCounts (input : TableInput) (garp weak_garp warp sarp observations : ℕ) : Type 0 where
  pub garp_is : IsNumberOfPairs input.n (IsGarpPair input) garp
  pub weak_garp_is : IsNumberOfPairs input.n (IsWeakGarpPair input) weak_garp
  pub warp_is : IsNumberOfPairs input.n (IsWarpPair input) warp
  pub sarp_is : IsNumberOfPairs input.n (IsSarpPair input) sarp
  pub observations_is : IsNumberOf input.n (IsInGarpPair input) observations
