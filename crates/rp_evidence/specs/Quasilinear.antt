-- The test for a utility that is linear in money: cyclical monotonicity of expenditures (Rockafellar 1970,
-- Convex Analysis, section 24; Brown and Calsamiglia 2007).
use Rattle.std.specs.Prelude.{◌≡◌, ℕ, ◌<◌, ℤ, pos, ◌+ℤ◌, ◌-ℤ◌, ◌<ℤ◌, ◌≤ℤ◌, List, [], ◌∷◌, length, slice_index_or}
use Rattle.rp_evidence.specs.Walk.{AnyStep, IsWalk, IsClosedWalk}
use Rattle.rp_evidence.specs.declared.quasilinear.Quasi.{Quasi}
use Rattle.rp_evidence.specs.declared.quasilinear.Quasi.TheVariants.{Values, Cycle}

-- A step from t to s adds what the bundle of s costs at the prices of t, less what that of t costs.
abbrev pub step_sum : (ℕ → ℕ → ℕ) → ℕ → ℕ → ℤ
step_sum c t s = pos (c t s) -ℤ pos (c t t)

-- The sum over the steps from t to the first of the list, and so on.
abbrev pub sum_from : (ℕ → ℕ → ℕ) → ℕ → List ℕ → ℤ
sum_from c t [] = pos 0
sum_from c t (s ∷ rest) = step_sum c t s +ℤ sum_from c s rest

-- The sum over the steps of a walk.
abbrev pub walk_sum : (ℕ → ℕ → ℕ) → List ℕ → ℤ
walk_sum c [] = pos 0
walk_sum c (t ∷ rest) = sum_from c t rest

-- A closed walk with a negative sum.
pub record IsNegativeCycle (n : ℕ) (c : ℕ → ℕ → ℕ) (walk : List ℕ) : Type 0 where
  pub closed : IsClosedWalk n AnyStep walk
  pub negative : walk_sum c walk <ℤ pos 0

-- The test: no closed walk, however long, has a negative sum.
abbrev pub MeetsQuasilinearTest : ℕ → (ℕ → ℕ → ℕ) → Type 0
MeetsQuasilinearTest n c = (walk : List ℕ) → ¬ (IsNegativeCycle n c walk)

-- The number x is the least sum over all walks that end at s.
pub record IsLeastSum (n : ℕ) (c : ℕ → ℕ → ℕ) (s : ℕ) (x : ℤ) : Type 0 where
  pub reached : (t : ℕ) × (walk : List ℕ) × IsWalk n AnyStep t s walk × (walk_sum c walk ≡ x)
  pub lowest : (t : ℕ) (walk : List ℕ) → IsWalk n AnyStep t s walk → x ≤ℤ walk_sum c walk

-- One value for each observation, and no step leads to more than the value before it and what it adds.
pub record BoundSteps (n : ℕ) (c : ℕ → ℕ → ℕ) (values : List ℤ) : Type 0 where
  pub one_each : length values ≡ n
  pub each : (t s : ℕ) → t < n → s < n
      → slice_index_or values s (pos 0) ≤ℤ (slice_index_or values t (pos 0) +ℤ step_sum c t s)

-- Values prove that the test holds: it does, and they bound the steps. A cycle proves that it fails: it
-- is closed and its sum is negative.
abbrev pub ProvesQuasilinear : ℕ → (ℕ → ℕ → ℕ) → Quasi → Type 0
ProvesQuasilinear n c (Values values) = BoundSteps n c values × MeetsQuasilinearTest n c
ProvesQuasilinear n c (Cycle walk) = IsNegativeCycle n c walk
