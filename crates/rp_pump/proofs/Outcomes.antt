-- What the rounds come to, for a table of costs.
use Rattle.std.proofs.Common.{◌*◌, ◌^◌, ℕ, zero, suc, ◌<◌, ◌≤◌, arith, List, slice_index_or}
use Rattle.std.proofs.Math.Nat.{mul-le-mul_right}
use Rattle.std.specs.Prelude.{ℤ, pos}
use Rattle.rp_walk.specs.ExactTotal.{ExactTotal}
use Rattle.rp_walk.specs.Outcome.{SettlesInCycle, SettlesInValues, SettlesInWide}
use Rattle.rp_walk.specs.Sums.{FitsI128, sums, whole_total}
use Rattle.rp_fit.specs.PumpEvidence.{HasLeastPumpTotals, PumpHolds}
use Rattle.rp_pump.specs.InnerBest.{IsBest}
use Rattle.rp_pump.specs.InnerTotal.{added}
use Rattle.rp_pump.proofs.Rounds.{IsGreater, IsGreater-falls, left, left_falls, rises}
use Rattle.rp_pump.proofs.Totals.{IsSmall, added_small, bound, never_wide}
use Rattle.rp_pump.proofs.Values.{least_pump_total, step_bounds, value_limits}
use Rattle.rp_table.specs.Cost.{CostTable, IsCostTable, cost_at}
use Rattle.rp_table.proofs.CostLimits.{cost_below}
use Rattle.rp_limits.specs.declared.table.TheConstants.{RECORDS}

few_steps : (n : ℕ) → n ≤ RECORDS → n * bound < 2 ^ 121
few_steps n few =
    let far = mul-le-mul_right {m = n} {n = RECORDS} bound few in
    omega (arith, far)

module _ (costs : CostTable) (valid : IsCostTable costs) (num den : ℕ) (walk : List ℕ) (best : IsBest costs.n (cost_at costs) num den walk) where
  small : (s t : ℕ) → IsSmall (added (cost_at costs) num den s t)
  small = added_small (cost_at costs) num den (cost_below costs valid) (omega (arith, best.at_most_one, best.den_fits)) best.den_fits

  few : costs.n * bound < 2 ^ 121
  few = few_steps costs.n valid.few

  pub stays_narrow : (k t s : ℕ) → ¬ (SettlesInWide (sums costs.n (added (cost_at costs) num den)) FitsI128 k t s)
  stays_narrow = never_wide costs.n (added (cost_at costs) num den) small (omega (arith, few))

  pub is_greater : (start : ExactTotal) (next : List ℕ) → SettlesInCycle (sums costs.n (added (cost_at costs) num den)) FitsI128 start next → IsGreater costs.n (cost_at costs) num den next
  is_greater start next h = IsGreater-falls costs.n (cost_at costs) num den small few start next h.falls h.simple

  pub comes_nearer : (start : ExactTotal) (next : List ℕ) (p q : ℕ) → SettlesInCycle (sums costs.n (added (cost_at costs) num den)) FitsI128 start next
      → IsBest costs.n (cost_at costs) p q next → left p q < left num den
  comes_nearer start next p q h after =
      left_falls num den p q best.positive after.positive best.den_fits after.den_fits after.at_most_one
      (rises costs.n (cost_at costs) num den p q next (is_greater start next h) after.positive after.ratio)

  -- what is found gives something away
  pub gives_away : (start : ExactTotal) (next : List ℕ) (p q : ℕ) → SettlesInCycle (sums costs.n (added (cost_at costs) num den)) FitsI128 start next
      → IsBest costs.n (cost_at costs) p q next → 0 < p
  gives_away start next p q h after = some p (rises costs.n (cost_at costs) num den p q next (is_greater start next h) after.positive after.ratio)
    where
      some : (p : ℕ) → num * q < p * den → 0 < p
      some zero less = absurd (omega (arith, less))
      some (suc p) less = omega arith

  module _ (values : List ℤ) (settled : SettlesInValues (sums costs.n (added (cost_at costs) num den)) FitsI128 whole_total values) where
    pub has_least : HasLeastPumpTotals costs.n (cost_at costs) (record { num = num; den = den; cycle = walk; values = values })
    has_least = record {
      one_each = settled.one_each;
      least = λ s hs. least_pump_total costs.n (cost_at costs) num den small few s (slice_index_or values s (pos 0)) hs (settled.least s (pos 0) hs);
    }

    pub holds : PumpHolds costs.n (cost_at costs) (record { num = num; den = den; cycle = walk; values = values })
    holds = record {
      positive = best.positive;
      num_fits = omega (arith, best.at_most_one, best.den_fits);
      den_fits = best.den_fits;
      cycle = record { few = best.few; closed = best.closed };
      ratio = best.ratio;
      values = record { one_each = settled.one_each; fit = λ s hs. value_limits costs.n (cost_at costs) num den small few s (slice_index_or values s (pos 0)) hs (settled.least s (pos 0) hs) };
      bounds = λ s hs t ht d weak. step_bounds costs.n (cost_at costs) num den small few s t (slice_index_or values s (pos 0)) (slice_index_or values t (pos 0)) hs ht d weak
          (settled.least s (pos 0) hs) (settled.least t (pos 0) ht);
    }
