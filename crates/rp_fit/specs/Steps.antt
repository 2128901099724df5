-- The minimum cost index: the least that strict steps cost whose removal leaves no closed walk of strict steps (Dean
-- and Martin 2016, "Measuring Rationality with the Minimum Cost of Revealed Preference Violations").
use Rattle.std.specs.Prelude.{◌≡◌, ◌≤◌, ◌-◌, ◌*◌, ℕ, Bool, false, List, if◌then◌else◌}
use Rattle.rp_evidence.specs.Preference.{IsStrict}
use Rattle.rp_evidence.specs.Walk.{IsClosedWalk}
use Rattle.rp_table.specs.Sums.{sum_below}

-- What it costs to take away the step from s to t: what was spent at s, less what the bundle of t costs there. A step
-- that is not strict costs nothing.
abbrev pub step_cost : (ℕ → ℕ → ℕ) → ℕ → ℕ → ℕ
step_cost c s t = c s s - c s t

-- A strict step that is not taken away.
abbrev pub IsLeft : (ℕ → ℕ → ℕ) → (ℕ → ℕ → Bool) → ℕ → ℕ → Type 0
IsLeft c taken s t = IsStrict c s t × (taken s t ≡ false)

-- What is taken away is enough: no closed walk, however long, is left.
abbrev pub IsEnough : ℕ → (ℕ → ℕ → ℕ) → (ℕ → ℕ → Bool) → Type 0
IsEnough n c taken = (walk : List ℕ) → ¬ IsClosedWalk n (IsLeft c taken) walk

-- What the steps cost that are taken away.
abbrev pub taken_cost : ℕ → (ℕ → ℕ → ℕ) → (ℕ → ℕ → Bool) → ℕ
taken_cost n c taken = sum_below n (λ s. sum_below n (λ t. if taken s t then step_cost c s t else 0))

-- Whatever is enough costs at least a/b.
abbrev pub CostsAtLeast : ℕ → (ℕ → ℕ → ℕ) → ℕ → ℕ → Type 0
CostsAtLeast n c a b = (taken : ℕ → ℕ → Bool) → IsEnough n c taken → a ≤ b * taken_cost n c taken

-- The least cost of steps that are enough.
pub record IsLeastStepsCost (n : ℕ) (c : ℕ → ℕ → ℕ) (cost : ℕ) : Type 0 where
  pub reached : (taken : ℕ → ℕ → Bool) × IsEnough n c taken × (taken_cost n c taken ≡ cost)
  pub least : CostsAtLeast n c cost 1

-- All that was spent.
abbrev pub all_spent : ℕ → (ℕ → ℕ → ℕ) → ℕ
all_spent n c = sum_below n (λ s. c s s)

-- The index is num/den: that part of all that was spent is the least cost.
pub record IsMinimumCostIndex (n : ℕ) (c : ℕ → ℕ → ℕ) (num den : ℕ) : Type 0 where
  pub positive : 1 ≤ den
  pub cost : ℕ
  pub least : IsLeastStepsCost n c cost
  pub part : num * all_spent n c ≡ den * cost
