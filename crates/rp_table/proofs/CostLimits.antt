-- The limits of the costs in a table of them: every cost between observations is positive, and below 2^51 wherever it
-- is read.
use Rattle.std.proofs.Common.{◌+◌, ◌*◌, ◌^◌, ℕ, ◌<◌, ◌≤◌, ◌⊎◌, inl, inr, arith, lit<, length, get_or}
use Rattle.std.proofs.lemmas.Bool.{cases_lt}
use Rattle.std.proofs.lemmas.List.{get_or_past}
use Rattle.std.proofs.lemmas.Nat.{mul-add-lt}
use Rattle.rp_table.specs.Cost.{CostTable, IsCostTable, cost_at}

pub cost_positive : (costs : CostTable) → IsCostTable costs → (s t : ℕ) → s < costs.n → t < costs.n → 1 ≤ cost_at costs s t
cost_positive costs valid s t s_in t_in =
    (valid.limits (s * costs.n + t) 0 (omega (arith, mul-add-lt s costs.n t costs.n s_in t_in, valid.all))).0

pub cost_below : (costs : CostTable) → IsCostTable costs → (s t : ℕ) → cost_at costs s t < 2 ^ 51
cost_below costs valid s t = by_cases (cases_lt (s * costs.n + t) (length costs.entries))
  where
    by_cases : (s * costs.n + t < length costs.entries) ⊎ (length costs.entries ≤ s * costs.n + t) → get_or costs.entries (s * costs.n + t) 0 < 2 ^ 51
    by_cases (inl within) = (valid.limits (s * costs.n + t) 0 within).1
    by_cases (inr past) = rw (get_or_past costs.entries (s * costs.n + t) 0 past) (lit< tt)
