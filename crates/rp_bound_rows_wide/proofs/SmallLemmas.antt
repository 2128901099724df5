-- The parts of shown bounds are small where nothing is found wrong with them: they are lowest terms of evidence within
-- its width.
use Rattle.std.proofs.Common.{◌<◌, ℕ, Bool, List, Ok, slice_index, arith}
use Rattle.rp_check.specs.DemandFailure.{DemandFails}
use Rattle.rp_check.specs.WelfareFailure.{WelfareFails}
use Rattle.rp_evidence.specs.Demand.{spending}
use Rattle.rp_evidence.specs.DemandEvidence.{budget_of}
use Rattle.rp_evidence.specs.DemandPrograms.{lower_program, upper_program}
use Rattle.rp_evidence.specs.Input.{TableInput, input_of_table}
use Rattle.rp_evidence.specs.LeastCost.{least_cost_program}
use Rattle.rp_evidence.specs.declared.demand.DemandPart.{DemandPart}
use Rattle.rp_evidence.specs.declared.demand.DemandPart.TheVariants.{Bounds, NoModel}
use Rattle.rp_evidence.specs.declared.demand.WelfarePart.{WelfarePart}
use Rattle.rp_evidence.specs.declared.demand.WelfarePart.TheVariants.{Bounds as WelfareBounds, NoModel as NoWelfare}
use Rattle.rp_table.specs.NewPrices.{AreNewPrices}
use Rattle.rp_table.specs.Tables.{IsTable, Observations, goods_of}
use Rattle.rp_bound_rows.proofs.SmallLemmas.{small_bound, small_good, spending_small}
use Rattle.rp_bound_rows.specs.SmallParts.{HasSmallDemand, HasSmallWelfare}

-- ---- demand

pub small_demand : (input : TableInput) (garp_shown : Bool) (prices : List ℕ) (m : ℕ) (part : DemandPart) → DemandFails input garp_shown prices m part (Ok tt) → HasSmallDemand part
small_demand input garp_shown prices m (Bounds below strict inner goods) passes = λ k d within.
    let goods_pass = passes.1.1.0.1.1.1.0 in
    let g_in : k < input.goods = omega (arith, within, goods_pass.0) in
    let good_passes = goods_pass.1.0 k g_in d in (
      small_good (lower_program input (budget_of prices m) below k) k _ g_in good_passes.0,
      small_good (upper_program input (budget_of prices m) below k) k _ g_in good_passes.1.0,
    )
small_demand input garp_shown prices m (NoModel walk) passes = tt

-- ---- the money metric

module _ (table : Observations) (valid : IsTable table) (prices : List ℕ) (new : AreNewPrices (goods_of table) prices) where
  pub small_welfare : (garp_shown : Bool) (t : ℕ) (part : WelfarePart) → WelfareFails (input_of_table table) garp_shown prices t part (Ok tt) → HasSmallWelfare part
  small_welfare garp_shown t (WelfareBounds upper at lower) passes =
      let holds = passes.1.0.1.0.1.1.1.1.0 in
      small_bound (least_cost_program (input_of_table table) (slice_index prices) holds.0) (spending (goods_of table) (slice_index prices)) lower (λ pair shown. spending_small table valid prices new pair.x shown.x_fits) holds.2
  small_welfare garp_shown t (NoWelfare walk) passes = tt
