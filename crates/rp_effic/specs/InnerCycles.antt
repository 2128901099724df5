-- For the proofs alone: at which ratios some closed walk has weak steps alone (Afriat 1973).
use Rattle.std.specs.Prelude.{ℕ, List, slice_index_or}
use Rattle.rp_evidence.specs.Preference.{IsWeakAt}
use Rattle.rp_evidence.specs.Walk.{IsClosedWalk}
use Rattle.rp_table.specs.Cost.{CostTable, cost_at}
use Rattle.rp_effic.specs.declared.ratio.Ratio.{Ratio}

-- Some closed walk has weak steps alone at the level num/den.
abbrev pub HasCycle : ℕ → (ℕ → ℕ → ℕ) → ℕ → ℕ → Type 0
HasCycle n c num den = (walk : List ℕ) × IsClosedWalk n (IsWeakAt c num den) walk

-- There is one at the ratio in this place, whatever stands for a place past the end.
abbrev pub HasCycleFrom : CostTable → List Ratio → ℕ → Type 0
HasCycleFrom costs ratios place =
    (d : Ratio) → HasCycle costs.n (cost_at costs) (slice_index_or ratios place d).num
    (slice_index_or ratios place d).den
