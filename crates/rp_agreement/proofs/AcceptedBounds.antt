-- What proves its verdict and is as it is given passes: demand and welfare.
use Rattle.std.proofs.Common.{◌<◌, ℕ, List, Bool, IsTrue, Ok, arith, refl, sym, slice_index}
use Rattle.rp_table.specs.Limits.{IsExpenditure}
use Rattle.rp_table.specs.NewPrices.{AreNewPrices}
use Rattle.rp_check.specs.DemandFailure.{DemandBoundsFail, DemandFails}
use Rattle.rp_check.specs.ItemFailure.{shows_garp}
use Rattle.rp_clauses.specs.PricesFailure.{PricesFail}
use Rattle.rp_check.specs.WelfareFailure.{LowerHolds, WelfareFails}
use Rattle.rp_evidence.specs.Demand.{BudgetInput}
use Rattle.rp_evidence.specs.DemandEvidence.{ProvesDemand, ProvesDemandBounds, ProvesWelfare, budget_of, bundle_of}
use Rattle.rp_evidence.specs.Garp.{MeetsGarp, ProvesGarp}
use Rattle.rp_evidence.specs.Input.{TableInput}
use Rattle.rp_evidence.specs.Preference.{IsStrict, IsWeak}
use Rattle.rp_evidence.specs.declared.certificate.Item.TheVariants.{Garp as GarpItem}
use Rattle.rp_evidence.specs.declared.demand.Bound.{Bound}
use Rattle.rp_evidence.specs.declared.demand.Bound.TheVariants.{Shown, Wide}
use Rattle.rp_evidence.specs.declared.demand.DemandPart.{DemandPart}
use Rattle.rp_evidence.specs.declared.demand.DemandPart.TheVariants.{Bounds, NoModel}
use Rattle.rp_evidence.specs.declared.demand.GoodBounds.{GoodBounds}
use Rattle.rp_evidence.specs.declared.demand.Point.{Point}
use Rattle.rp_evidence.specs.declared.demand.WelfarePart.{WelfarePart}
use Rattle.rp_evidence.specs.declared.demand.WelfarePart.TheVariants.{Bounds as WelfareBounds, NoModel as NoWelfare}
use Rattle.rp_evidence.specs.declared.garp.Garp.{Garp}
use Rattle.rp_evidence.specs.declared.garp.Garp.TheVariants.{Ranks, Cycle}
use Rattle.rp_evidence.proofs.DemandLaws.{enough_where_kept, more_where_kept}
use Rattle.rp_support.specs.Bounds.{AreBoundsOf}
use Rattle.rp_support.specs.DemandVerdict.{IsDemandVerdict}
use Rattle.rp_welfare.specs.WelfareVerdict.{IsLowerBound, IsWelfareVerdict}
use Rattle.rp_agreement.proofs.Closed.{violation_passes}

prices_pass : (goods : ℕ) (prices : List ℕ) → AreNewPrices goods prices → PricesFail goods prices (Ok tt)
prices_pass goods prices new = (new.one_each, ((λ g g_in. new.fit g 0 (omega (arith, new.one_each))), tt))

module _ (input : TableInput) (shown : Bool) where
  demand_bounds_pass : (budget : BudgetInput) (below strict : List ℕ) (inner : Point) (goods : List GoodBounds) → IsTrue shown
      → ProvesDemandBounds input budget below strict inner goods → AreBoundsOf input budget below goods → DemandBoundsFail input shown budget below strict inner goods (Ok tt)
  demand_bounds_pass budget below strict inner goods is_shown proves bounds =
      let kept = proves.inner_supports in
      let enough = enough_where_kept input budget (bundle_of inner) kept in
      let more = more_where_kept input budget (bundle_of inner) kept in (
        is_shown,
        (
          (proves.below_listed, (proves.strict_listed, tt)),
          (
            (
              kept.on_budget.fraction,
              (
                proves.inner_goods,
                (kept.on_budget.spent, ((λ t t_in. ((λ is_below. enough t t_in is_below), (λ is_below. more t t_in is_below))), tt)),
              ),
            ),
            (
              (
                proves.one_each,
                (
                  (λ g g_in d. (
                    (bounds.lower g d g_in).value,
                    ((bounds.upper g d g_in).value, tt),
                  )),
                  tt,
                ),
              ),
              tt,
            ),
          ),
        ),
      )

  pub demand_passes : (verdict : Garp) (prices : List ℕ) (m : ℕ) (part : DemandPart) → (IsTrue (shows_garp (GarpItem verdict)) → IsTrue shown)
      → AreNewPrices input.goods prices → IsExpenditure m → ProvesDemand input prices m part → IsDemandVerdict input (budget_of prices m) verdict part
      → DemandFails input shown prices m part (Ok tt)
  demand_passes (Ranks ranks) prices m (Bounds below strict inner goods) is_shown new spent proves given = (
    prices_pass input.goods prices new,
    (spent, (demand_bounds_pass (budget_of prices m) below strict inner goods (is_shown refl) proves.1 given.1, tt)),
  )
  demand_passes (Ranks ranks) prices m (NoModel walk) is_shown new spent proves given = absurd given
  demand_passes (Cycle cycle) prices m (Bounds below strict inner goods) is_shown new spent proves given = absurd given
  demand_passes (Cycle cycle) prices m (NoModel walk) is_shown new spent proves given = (
    prices_pass input.goods prices new,
    (spent, (violation_passes input.n (IsWeak input.cost) (IsStrict input.cost) walk proves, tt)),
  )

  lower_holds : (prices : ℕ → ℕ) (t : ℕ) (lower : Bound) → IsLowerBound input prices t lower → LowerHolds input prices t lower
  lower_holds prices t (Shown value pair) is = (is.reached, is.listed, is.is_bound.value)
  lower_holds prices t (Wide step) is = (is.reached, is.listed, tt)

  -- where the axiom holds a verdict on it that proves itself shows it
  shows_it : (verdict : Garp) → ProvesGarp input.n input.cost verdict → MeetsGarp input.n input.cost → IsTrue (shows_garp (GarpItem verdict))
  shows_it (Ranks ranks) proves meets = refl
  shows_it (Cycle walk) proves meets = absurd (meets walk proves)

  pub welfare_passes : (verdict : Garp) (prices : List ℕ) (t : ℕ) (part : WelfarePart) → (IsTrue (shows_garp (GarpItem verdict)) → IsTrue shown)
      → AreNewPrices input.goods prices → t < input.n → ProvesGarp input.n input.cost verdict → ProvesWelfare input prices t part → IsWelfareVerdict input prices t verdict part
      → WelfareFails input shown prices t part (Ok tt)
  welfare_passes verdict prices t (WelfareBounds upper at lower) is_shown new t_in garp proves given =
      let least = proves.1.upper_is in (
        prices_pass input.goods prices new,
        (
          (
            (t_in, least.observed),
            (
              (
                is_shown (shows_it verdict garp given.sound),
                (least.leads, (sym least.costs, ((λ s s_in reaches. least.least s reaches), (lower_holds (slice_index prices) t lower given.lower_is, tt)))),
              ),
              tt,
            ),
          ),
          tt,
        ),
      )
  welfare_passes verdict prices t (NoWelfare walk) is_shown new t_in garp proves given = (
    prices_pass input.goods prices new,
    ((t_in, (violation_passes input.n (IsWeak input.cost) (IsStrict input.cost) walk proves, tt)), tt),
  )
