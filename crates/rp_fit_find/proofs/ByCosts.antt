-- What is given by the costs of a table passes the checker of the table, and is within the limits of reading.
use Rattle.std.proofs.Common.{◌≡◌, ◌<◌, ◌≤◌, ℕ, ℤ, pos, negsuc, List, Ok, All, arith, length, subst}
use Rattle.std.proofs.lemmas.Int.{ints}
use Rattle.std.proofs.lemmas.List.{get_or_default}
use Rattle.rp_agreement.proofs.Accepted.{efficiency_passes}
use Rattle.rp_agreement.proofs.Closed.{closed_passes, weak_passes}
use Rattle.rp_agreement.proofs.Lists.{walk_fits}
use Rattle.rp_agreement.proofs.TestsFit.{efficiency_fits}
use Rattle.rp_check_walk_levels.specs.PumpFailure.{CycleFails, PumpFails, PumpValuesFail}
use Rattle.rp_check_walk_levels.proofs.PumpSound.{pump_proves}
use Rattle.rp_effic.specs.EfficiencyVerdict.{IsEfficiencyVerdict}
use Rattle.rp_effic.proofs.SameVerdicts.{verdict_same}
use Rattle.rp_evidence.specs.Efficiency.{ProvesEfficiency}
use Rattle.rp_evidence.specs.Input.{input_of_table}
use Rattle.rp_evidence.specs.Preference.{AgreeBelow, IsWeak}
use Rattle.rp_evidence.specs.declared.efficiency.Efficiency.{Efficiency}
use Rattle.rp_evidence.proofs.SameIndex.{efficiency_same}
use Rattle.rp_fit.specs.PumpEvidence.{FitsPumpValue, PumpHolds}
use Rattle.rp_fit.specs.declared.item.FitItem.TheVariants as item
use Rattle.rp_fit.specs.declared.pump.PumpPart.{PumpPart}
use Rattle.rp_json_indices.specs.Limits.{FitsPump}
use Rattle.rp_limits.specs.declared.table.TheConstants.{RECORDS}
use Rattle.rp_num.specs.Spelled.{FitsSum}
use Rattle.rp_pump.proofs.SamePumps.{holds_same}
use Rattle.rp_table.specs.Cost.{CostTable, IsCostsOf, cost_at, cost_of}
use Rattle.rp_table.specs.Tables.{Observations, records_of}
use Rattle.rp_fit_find.specs.InnerReady.{IsReady}

agree : (costs : CostTable) (table : Observations) → IsCostsOf costs table → AgreeBelow costs.n (cost_at costs) (cost_of table)
agree costs table is = λ s t s_in t_in. is.each s t (rw is.size at s_in) (rw is.size at t_in)

pub efficiency_ready : (costs : CostTable) (table : Observations) → IsCostsOf costs table → records_of table ≤ RECORDS → (evidence : Efficiency) → ProvesEfficiency costs.n (cost_at costs) evidence
    → IsEfficiencyVerdict costs.n (cost_at costs) evidence → IsReady (input_of_table table) (item.Efficiency evidence)
efficiency_ready costs table is few evidence proves given =
    let n = records_of table in
    let c = cost_of table in
    let here = cost_at costs in
    let proves_there : ProvesEfficiency n c evidence = rw (← is.size) (efficiency_same costs.n here c evidence (agree costs table is) proves) in
    let given_there : IsEfficiencyVerdict n c evidence = rw (← is.size) (verdict_same costs.n here c evidence (agree costs table is) given) in
    record {
      passes = efficiency_passes n c evidence proves_there given_there;
      proves = proves_there;
      fits = efficiency_fits n c few evidence proves_there given_there;
    }

-- ---- the money pump

cycle_passes : (n : ℕ) (c : ℕ → ℕ → ℕ) (part : PumpPart) → PumpHolds n c part → CycleFails n c part.num part.den part.cycle (Ok tt)
cycle_passes n c part holds = (
  holds.cycle.few,
  (closed_passes n (IsWeak c) part.cycle holds.cycle.closed, (weak_passes n (IsWeak c) part.cycle holds.cycle.closed, (holds.ratio, tt))),
)

values_pass : (n : ℕ) (c : ℕ → ℕ → ℕ) (part : PumpPart) → PumpHolds n c part → PumpValuesFail n c part.num part.den part.values (Ok tt)
values_pass n c part holds = (
  holds.values.one_each,
  ((λ s within. holds.values.fit s (omega (arith, within, holds.values.one_each))), (holds.bounds, tt)),
)

pump_passes : (n : ℕ) (c : ℕ → ℕ → ℕ) (part : PumpPart) → PumpHolds n c part → PumpFails n c part (Ok tt)
pump_passes n c part holds = (
  holds.positive,
  ((holds.num_fits, holds.den_fits), (cycle_passes n c part holds, (values_pass n c part holds, tt))),
)

sum_fits : (x : ℤ) → FitsPumpValue x → FitsSum x
sum_fits (pos k) fits = omega (arith, ints, fits.1)
sum_fits (negsuc k) fits = omega (arith, ints, fits.0)

pump_fits : (n : ℕ) (c : ℕ → ℕ → ℕ) (part : PumpPart) → n ≤ RECORDS → PumpHolds n c part → FitsPump part
pump_fits n c part few holds = (
  walk_fits n few (IsWeak c) part.cycle holds.cycle.closed,
  omega (arith, holds.den_fits),
  omega (arith, holds.num_fits),
  (λ k d within.
      subst FitsSum (get_or_default part.values k (pos 0) d within) (sum_fits _ (holds.values.fit k (omega (arith, within, holds.values.one_each))))),
)

pub pump_ready : (costs : CostTable) (table : Observations) → IsCostsOf costs table → records_of table ≤ RECORDS → (part : PumpPart) → PumpHolds costs.n (cost_at costs) part
    → IsReady (input_of_table table) (item.Pump part)
pump_ready costs table is few part holds =
    let n = records_of table in
    let c = cost_of table in
    let there : PumpHolds n c part = rw (← is.size) (holds_same costs.n (cost_at costs) c (agree costs table is) part holds) in
    record {
      passes = pump_passes n c part there;
      proves = pump_proves n c part (Ok tt) (pump_passes n c part there);
      fits = pump_fits n c part few there;
    }
