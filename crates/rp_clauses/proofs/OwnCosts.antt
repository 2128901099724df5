-- What was spent at an observation is not 0.
use Rattle.std.proofs.Common.{◌+◌, ◌*◌, ◌<◌, ◌≤◌, ℕ, arith}
use Rattle.std.proofs.lemmas.Nat.{mul-add-lt}
use Rattle.rp_table.specs.Cost.{CostTable, IsCostTable, IsCostsOf, cost_of}
use Rattle.rp_table.specs.Tables.{Observations, records_of}

pub own_positive : (costs : CostTable) (table : Observations) → IsCostTable costs → IsCostsOf costs table → (s : ℕ) → s < records_of table → 1 ≤ cost_of table s s
own_positive costs table valid of s s_in =
    let small : s < costs.n = omega (arith, of.size) in
    let h = (valid.limits (s * costs.n + s) 0 (omega (arith, mul-add-lt s costs.n s costs.n small small, valid.all))).0 in
    omega (arith, h, of.each s s s_in s_in)
