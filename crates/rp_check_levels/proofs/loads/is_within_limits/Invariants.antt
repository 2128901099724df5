use Rattle.std.proofs.Common.{ℕ, ◌*◌, ◌<◌, ◌≤◌}
use Rattle.rp_check_levels.specs.Loads.{limit, loads}
use Rattle.rp_evidence.specs.Preference.{IsStrict}
use Rattle.rp_fit.specs.WeightedWalks.{weight_by}
use Rattle.rp_table.specs.Cost.{cost_of}
use Rattle.rp_check_levels.proofs.loads.is_within_limits.Given as goal

abbrev pub invariant-loop-t : goal.invariant-loop-t
invariant-loop-t l = (t : ℕ) → t < l.t → IsStrict (cost_of l.input.table.now) l.s t
    → weight_by (loads l.measure (cost_of l.input.table.now) l.s t) l.walks ≤ l.den * limit l.measure (cost_of l.input.table.now) l.s t
