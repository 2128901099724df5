-- Where nothing is found wrong, nothing wrong can be found: no list of clauses both holds and fails.
use Rattle.std.proofs.Common.{ℕ, ◌≡◌, Bool, List, [], Ok, Err, inl, inr, refl, slice_index, take, slice_index_or}
use Rattle.rp_clauses.specs.AfriatFailure.{AfriatFails}
use Rattle.rp_check.specs.CheckVerdict.{IsCheckVerdict}
use Rattle.rp_check.specs.LevelsFailure.{LevelsFail}
use Rattle.rp_check.specs.DemandFailure.{DemandBoundsFail, DemandFails, GoodFails, GoodsFail, InnerFails, SetsFail}
use Rattle.rp_clauses.specs.EfficiencyFailure.{AboveFails, EfficiencyFails, LevelFails}
use Rattle.rp_clauses.specs.GarpFailure.{GarpFails, OrderingFails}
use Rattle.rp_clauses.specs.HomotheticFailure.{HomotheticFails, ProductsFail, StepFails}
use Rattle.rp_check.specs.ItemFailure.{ItemFails, one_shows_garp}
use Rattle.rp_clauses.specs.PricesFailure.{PricesFail}
use Rattle.rp_clauses.specs.QuasilinearFailure.{QuasilinearFails}
use Rattle.rp_clauses.specs.WalkFailure.{ClosedWalkFails, ViolationFails}
use Rattle.rp_check.specs.WelfareFailure.{WelfareBoundsFail, WelfareFails, WelfarePartFails}
use Rattle.rp_check.specs.declared.verdict.Verdict.{Verdict}
use Rattle.rp_check.specs.declared.verdict.Verdict.TheVariants.{Accepted, Rejected}
use Rattle.rp_evidence.specs.Demand.{BudgetInput}
use Rattle.rp_evidence.specs.DemandEvidence.{budget_of}
use Rattle.rp_evidence.specs.Input.{TableInput}
use Rattle.rp_evidence.specs.Preference.{IsStrict, IsStrictAt, IsWeak, IsWeakAt, StrictByLevels, WeakByLevels}
use Rattle.rp_evidence.specs.declared.afriat.AfriatPart.{AfriatPart}
use Rattle.rp_evidence.specs.declared.afriat.AfriatPart.TheVariants.{Model, NoModel, Wide}
use Rattle.rp_evidence.specs.declared.certificate.Item.{Item}
use Rattle.rp_evidence.specs.declared.certificate.Item.TheVariants.{Garp as GarpItem, Afriat as AfriatItem, Efficiency as EfficiencyItem, Homothetic as HomotheticItem, Quasi as QuasiItem, Demand as DemandItem, Welfare as WelfareItem, Random as RandomItem}
use Rattle.rp_evidence.specs.declared.demand.Bound.{Bound}
use Rattle.rp_evidence.specs.declared.demand.Bound.TheVariants.{Wide as WideBound}
use Rattle.rp_evidence.specs.declared.demand.DemandPart.{DemandPart}
use Rattle.rp_evidence.specs.declared.demand.DemandPart.TheVariants.{Bounds as DemandBounds, NoModel as NoDemand}
use Rattle.rp_evidence.specs.declared.demand.GoodBounds.{GoodBounds}
use Rattle.rp_evidence.specs.declared.demand.Point.{Point}
use Rattle.rp_evidence.specs.declared.demand.WelfarePart.{WelfarePart}
use Rattle.rp_evidence.specs.declared.demand.WelfarePart.TheVariants.{Bounds as WelfareBounds, NoModel as NoWelfare}
use Rattle.rp_evidence.specs.declared.efficiency.Efficiency.{Efficiency}
use Rattle.rp_evidence.specs.declared.failure.Failure.{Failure}
use Rattle.rp_evidence.specs.declared.garp.Garp.{Garp}
use Rattle.rp_evidence.specs.declared.garp.Garp.TheVariants.{Ranks, Cycle as GarpCycle}
use Rattle.rp_evidence.specs.declared.homothetic.Homothetic.{Homothetic}
use Rattle.rp_evidence.specs.declared.homothetic.Homothetic.TheVariants.{Values as ProductValues, Cycle as FallingCycle, Withheld}
use Rattle.rp_evidence.specs.declared.quasilinear.Quasi.{Quasi}
use Rattle.rp_evidence.specs.declared.quasilinear.Quasi.TheVariants.{Values, Cycle as NegativeCycle}
use Rattle.rp_num.specs.Fraction.{Fraction}

any_item : Item
any_item = GarpItem (Ranks [])

any_bound : Bound
any_bound = WideBound 0

module _ (e : Failure) where
  -- ---- walks

  closed_excludes : (n : ℕ) (walk : List ℕ) → ClosedWalkFails n walk (Ok tt) → ClosedWalkFails n walk (Err e) → ⊥
  closed_excludes n walk (some, (observed, (closed, done))) (inl (not, is)) = not some
  closed_excludes n walk (some, (observed, (closed, done))) (inr (h, inl (k, within, (not, is), before))) = not (observed k within)
  closed_excludes n walk (some, (observed, (closed, done))) (inr (h, inr (i, inl (not, is)))) = not closed
  closed_excludes n walk (some, (observed, (closed, done))) (inr (h, inr (i, inr none))) = none.1

  -- ---- by a preference

  module _ (n : ℕ) (weak strict : ℕ → ℕ → Type 0) where
    violation_excludes : (walk : List ℕ) → ViolationFails n weak strict walk (Ok tt) → ViolationFails n weak strict walk (Err e) → ⊥
    violation_excludes walk (closed, (weak_steps, (strict_step, done))) (inl found) = closed_excludes n walk closed found
    violation_excludes walk (closed, (weak_steps, (strict_step, done))) (inr (h, inl (k, within, (not, is), before))) = not (weak_steps k within)
    violation_excludes walk (closed, (weak_steps, (strict_step, done))) (inr (h, inr (i, inl (not, is)))) = not strict_step
    violation_excludes walk (closed, (weak_steps, (strict_step, done))) (inr (h, inr (i, inr none))) = none.1

    garp_excludes : (verdict : Garp) → GarpFails n weak strict verdict (Ok tt) → GarpFails n weak strict verdict (Err e) → ⊥
    garp_excludes (Ranks ranks) (one_each, (respect, done)) (inl (not, is)) = not one_each
    garp_excludes (Ranks ranks) (one_each, (respect, done)) (inr (h, inl (k, within, (not, is), before))) = not (respect k within)
    garp_excludes (Ranks ranks) (one_each, (respect, done)) (inr (h, inr none)) = none.1
    garp_excludes (GarpCycle walk) holds found = violation_excludes walk holds found

    ordering_excludes : (ranks : List ℕ) → OrderingFails n strict ranks (Ok tt) → OrderingFails n strict ranks (Err e) → ⊥
    ordering_excludes ranks (one_each, (orders, done)) (inl (not, is)) = not one_each
    ordering_excludes ranks (one_each, (orders, done)) (inr (h, inl (k, within, (not, is), before))) = not (orders k within)
    ordering_excludes ranks (one_each, (orders, done)) (inr (h, inr none)) = none.1

  -- ---- the tests of a table

  afriat_excludes : (n : ℕ) (levels : List ℕ) (c : ℕ → ℕ → ℕ) (part : AfriatPart) → AfriatFails n levels c part (Ok tt) → AfriatFails n levels c part (Err e) → ⊥
  afriat_excludes n levels c (Model numbers) (one_each, (fit, (allow, done))) (inl (not, is)) = not one_each
  afriat_excludes n levels c (Model numbers) (one_each, (fit, (allow, done))) (inr (h, inl (k, within, (not, is), before))) = not (fit k within)
  afriat_excludes n levels c (Model numbers) (one_each, (fit, (allow, done))) (inr (h, inr (i, inl (k, within, (not, is), before)))) = not (allow k within)
  afriat_excludes n levels c (Model numbers) (one_each, (fit, (allow, done))) (inr (h, inr (i, inr none))) = none.1
  afriat_excludes n levels c (NoModel walk) holds found = violation_excludes n (WeakByLevels levels c) (StrictByLevels levels c) walk holds found
  afriat_excludes n levels c (Wide at) holds found = found

  module _ (n : ℕ) (c : ℕ → ℕ → ℕ) where
    above_excludes : (num den : ℕ) (walk : List ℕ) → AboveFails n c num den walk (Ok tt) → AboveFails n c num den walk (Err e) → ⊥
    above_excludes num den walk (inl (one, empty)) (inl (same, (not, is))) = not empty
    above_excludes num den walk (inl (one, empty)) (inr (other, found)) = other one
    above_excludes num den walk (inr (other, holds)) (inl (one, found)) = other one
    above_excludes num den walk (inr (other, (closed, (weak, done)))) (inr (same, inl found)) = closed_excludes n walk closed found
    above_excludes num den walk (inr (other, (closed, (weak, done)))) (inr (same, inr (h, inl (k, within, (not, is), before)))) = not (weak k within)
    above_excludes num den walk (inr (other, (closed, (weak, done)))) (inr (same, inr (h, inr none))) = none.1

    parts_exclude : (num den : ℕ) (below above : List ℕ) (at : Garp) → LevelFails n c num den below above at (Ok tt) → LevelFails n c num den below above at (Err e) → ⊥
    parts_exclude num den below above at (orders, (bounds, (is_at, done))) (inl found) = ordering_excludes n (IsWeakAt c num den) (IsStrictAt c num den) below orders found
    parts_exclude num den below above at (orders, (bounds, (is_at, done))) (inr (h, inl found)) = above_excludes num den above bounds found
    parts_exclude num den below above at (orders, (bounds, (is_at, done))) (inr (h, inr (i, inl found))) = garp_excludes n (IsWeakAt c num den) (IsStrictAt c num den) at is_at found
    parts_exclude num den below above at (orders, (bounds, (is_at, done))) (inr (h, inr (i, inr none))) = none.1

    efficiency_excludes : (evidence : Efficiency) → EfficiencyFails n c evidence (Ok tt) → EfficiencyFails n c evidence (Err e) → ⊥
    efficiency_excludes evidence (level, (parts, done)) (inl (not, is)) = not level
    efficiency_excludes evidence (level, (parts, done)) (inr (h, inl found)) =
        parts_exclude evidence.level.num evidence.level.den evidence.below evidence.above evidence.at parts found
    efficiency_excludes evidence (level, (parts, done)) (inr (h, inr none)) = none.1

    step_excludes : (values : List Fraction) (t s : ℕ) → StepFails c values t s (Ok tt) → StepFails c values t s (Err e) → ⊥
    step_excludes values t s (narrow, (bound, done)) (inl (not, is)) = not narrow
    step_excludes values t s (narrow, (bound, done)) (inr (h, inl (not, is))) = not bound
    step_excludes values t s (narrow, (bound, done)) (inr (h, inr none)) = none.1

    products_exclude : (start : Fraction) (walk : List ℕ) → ProductsFail c start walk (Ok tt) → ProductsFail c start walk (Err e) → ⊥
    products_exclude start walk (narrow, (below, done)) (inl (k, within, (not, is), before)) = not (narrow k within)
    products_exclude start walk (narrow, (below, done)) (inr (h, inl (not, is))) = not below
    products_exclude start walk (narrow, (below, done)) (inr (h, inr none)) = none.1

    homothetic_excludes : (verdict : Homothetic) → HomotheticFails n c verdict (Ok tt) → HomotheticFails n c verdict (Err e) → ⊥
    homothetic_excludes (ProductValues values) (one_each, (positive, (steps, done))) (inl (not, is)) = not one_each
    homothetic_excludes (ProductValues values) (one_each, (positive, (steps, done))) (inr (h, inl (k, within, (not, is), before))) = not (positive k within)
    homothetic_excludes (ProductValues values) (one_each, (positive, (steps, done))) (inr (h, inr (i, inl (t, t_in, (s, s_in, found, earlier), before)))) =
        step_excludes values t s (steps t t_in s s_in) found
    homothetic_excludes (ProductValues values) (one_each, (positive, (steps, done))) (inr (h, inr (i, inr none))) = none.1
    homothetic_excludes (FallingCycle start walk) (some, (closed, (products, done))) (inl (not, is)) = not some
    homothetic_excludes (FallingCycle start walk) (some, (closed, (products, done))) (inr (h, inl found)) = closed_excludes n walk closed found
    homothetic_excludes (FallingCycle start walk) (some, (closed, (products, done))) (inr (h, inr (i, inl found))) = products_exclude start walk products found
    homothetic_excludes (FallingCycle start walk) (some, (closed, (products, done))) (inr (h, inr (i, inr none))) = none.1
    homothetic_excludes (Withheld steps from to) holds found = found

    quasilinear_excludes : (verdict : Quasi) → QuasilinearFails n c verdict (Ok tt) → QuasilinearFails n c verdict (Err e) → ⊥
    quasilinear_excludes (Values values) (one_each, (fit, (bound, done))) (inl (not, is)) = not one_each
    quasilinear_excludes (Values values) (one_each, (fit, (bound, done))) (inr (h, inl (k, within, (not, is), before))) = not (fit k within)
    quasilinear_excludes (Values values) (one_each, (fit, (bound, done))) (inr (h, inr (i, inl (k, within, (not, is), before)))) = not (bound k within)
    quasilinear_excludes (Values values) (one_each, (fit, (bound, done))) (inr (h, inr (i, inr none))) = none.1
    quasilinear_excludes (NegativeCycle walk) (closed, (negative, done)) (inl found) = closed_excludes n walk closed found
    quasilinear_excludes (NegativeCycle walk) (closed, (negative, done)) (inr (h, inl (not, is))) = not negative
    quasilinear_excludes (NegativeCycle walk) (closed, (negative, done)) (inr (h, inr none)) = none.1

  -- ---- demand and welfare

  prices_exclude : (goods : ℕ) (prices : List ℕ) → PricesFail goods prices (Ok tt) → PricesFail goods prices (Err e) → ⊥
  prices_exclude goods prices (one_each, (fit, done)) (inl (not, is)) = not one_each
  prices_exclude goods prices (one_each, (fit, done)) (inr (h, inl (k, within, (not, is), before))) = not (fit k within)
  prices_exclude goods prices (one_each, (fit, done)) (inr (h, inr none)) = none.1

  module _ (input : TableInput) where
    module _ (budget : BudgetInput) where
      sets_exclude : (below strict : List ℕ) → SetsFail input budget below strict (Ok tt) → SetsFail input budget below strict (Err e) → ⊥
      sets_exclude below strict (lists, (others, done)) (inl (not, is)) = not lists
      sets_exclude below strict (lists, (others, done)) (inr (h, inl (not, is))) = not others
      sets_exclude below strict (lists, (others, done)) (inr (h, inr none)) = none.1

      inner_excludes : (inner : Point) → InnerFails input budget inner (Ok tt) → InnerFails input budget inner (Err e) → ⊥
      inner_excludes inner (some, (one_each, (spent, (enough, done)))) (inl (not, is)) = not some
      inner_excludes inner (some, (one_each, (spent, (enough, done)))) (inr (h, inl (not, is))) = not one_each
      inner_excludes inner (some, (one_each, (spent, (enough, done)))) (inr (h, inr (i, inl (not, is)))) = not spent
      inner_excludes inner (some, (one_each, (spent, (enough, done)))) (inr (h, inr (i, inr (j, inl (k, within, (not, is), before))))) = not (enough k within)
      inner_excludes inner (some, (one_each, (spent, (enough, done)))) (inr (h, inr (i, inr (j, inr none)))) = none.1

      good_excludes : (below : List ℕ) (g : ℕ) (bounds : GoodBounds) → GoodFails input budget below g bounds (Ok tt) → GoodFails input budget below g bounds (Err e) → ⊥
      good_excludes below g bounds (lower, (upper, done)) (inl (not, is)) = not lower
      good_excludes below g bounds (lower, (upper, done)) (inr (h, inl (not, is))) = not upper
      good_excludes below g bounds (lower, (upper, done)) (inr (h, inr none)) = none.1

      goods_exclude : (below : List ℕ) (goods : List GoodBounds) (any : GoodBounds) → GoodsFail input budget below goods (Ok tt) → GoodsFail input budget below goods (Err e) → ⊥
      goods_exclude below goods any (one_each, (each, done)) (inl (not, is)) = not one_each
      goods_exclude below goods any (one_each, (each, done)) (inr (h, inl (g, within, found, before))) =
          good_excludes below g (slice_index_or goods g any) (each g within any) (found any)
      goods_exclude below goods any (one_each, (each, done)) (inr (h, inr none)) = none.1

      demand_bounds_exclude : (shown : Bool) (below strict : List ℕ) (inner : Point) (goods : List GoodBounds) → DemandBoundsFail input shown budget below strict inner goods (Ok tt)
          → DemandBoundsFail input shown budget below strict inner goods (Err e) → ⊥
      demand_bounds_exclude shown below strict inner goods (is_shown, (sets, (point, (bounds, done)))) (inl (not, is)) = not is_shown
      demand_bounds_exclude shown below strict inner goods (is_shown, (sets, (point, (bounds, done)))) (inr (h, inl found)) = sets_exclude below strict sets found
      demand_bounds_exclude shown below strict inner goods (is_shown, (sets, (point, (bounds, done)))) (inr (h, inr (i, inl found))) = inner_excludes inner point found
      demand_bounds_exclude shown below strict inner goods (is_shown, (sets, (point, (bounds, done)))) (inr (h, inr (i, inr (j, inl found)))) =
          goods_exclude below goods (record { lower = any_bound; upper = any_bound }) bounds found
      demand_bounds_exclude shown below strict inner goods (is_shown, (sets, (point, (bounds, done)))) (inr (h, inr (i, inr (j, inr none)))) = none.1

    demand_excludes : (shown : Bool) (prices : List ℕ) (m : ℕ) (part : DemandPart) → DemandFails input shown prices m part (Ok tt) → DemandFails input shown prices m part (Err e) → ⊥
    demand_excludes shown prices m part (priced, (spent, (holds, done))) (inl found) = prices_exclude input.goods prices priced found
    demand_excludes shown prices m part (priced, (spent, (holds, done))) (inr (h, inl (not, is))) = not spent
    demand_excludes shown prices m (DemandBounds below strict inner goods) (priced, (spent, (holds, done))) (inr (h, inr (i, inl found))) =
        demand_bounds_exclude (budget_of prices m) shown below strict inner goods holds found
    demand_excludes shown prices m (NoDemand walk) (priced, (spent, (holds, done))) (inr (h, inr (i, inl found))) = violation_excludes input.n (IsWeak input.cost) (IsStrict input.cost) walk holds found
    demand_excludes shown prices m part (priced, (spent, (holds, done))) (inr (h, inr (i, inr none))) = none.1

    welfare_bounds_exclude : (shown : Bool) (prices : ℕ → ℕ) (t upper at : ℕ) (lower : Bound) → WelfareBoundsFail input shown prices t upper at lower (Ok tt)
        → WelfareBoundsFail input shown prices t upper at lower (Err e) → ⊥
    welfare_bounds_exclude shown prices t upper at lower (is_shown, (leads, (costs, (least, (low, done))))) (inl (not, is)) = not is_shown
    welfare_bounds_exclude shown prices t upper at lower (is_shown, (leads, (costs, (least, (low, done))))) (inr (h, inl (not, is))) = not leads
    welfare_bounds_exclude shown prices t upper at lower (is_shown, (leads, (costs, (least, (low, done))))) (inr (h, inr (i, inl (not, is)))) = not costs
    welfare_bounds_exclude shown prices t upper at lower (is_shown, (leads, (costs, (least, (low, done))))) (inr (h, inr (i, inr (j, inl (k, within, (not, is), before))))) = not (least k within)
    welfare_bounds_exclude shown prices t upper at lower (is_shown, (leads, (costs, (least, (low, done))))) (inr (h, inr (i, inr (j, inr (k, inl (not, is)))))) = not low
    welfare_bounds_exclude shown prices t upper at lower (is_shown, (leads, (costs, (least, (low, done))))) (inr (h, inr (i, inr (j, inr (k, inr none))))) = none.1

    welfare_part_excludes : (shown : Bool) (prices : ℕ → ℕ) (t : ℕ) (part : WelfarePart) → WelfarePartFails input shown prices t part (Ok tt) → WelfarePartFails input shown prices t part (Err e) → ⊥
    welfare_part_excludes shown prices t (WelfareBounds upper at lower) (observed, (bounds, done)) (inl (not, is)) = not observed
    welfare_part_excludes shown prices t (WelfareBounds upper at lower) (observed, (bounds, done)) (inr (h, inl found)) = welfare_bounds_exclude shown prices t upper at lower bounds found
    welfare_part_excludes shown prices t (WelfareBounds upper at lower) (observed, (bounds, done)) (inr (h, inr none)) = none.1
    welfare_part_excludes shown prices t (NoWelfare walk) (observed, (violation, done)) (inl (not, is)) = not observed
    welfare_part_excludes shown prices t (NoWelfare walk) (observed, (violation, done)) (inr (h, inl found)) = violation_excludes input.n (IsWeak input.cost) (IsStrict input.cost) walk violation found
    welfare_part_excludes shown prices t (NoWelfare walk) (observed, (violation, done)) (inr (h, inr none)) = none.1

    welfare_excludes : (shown : Bool) (prices : List ℕ) (t : ℕ) (part : WelfarePart) → WelfareFails input shown prices t part (Ok tt) → WelfareFails input shown prices t part (Err e) → ⊥
    welfare_excludes shown prices t part (priced, (holds, done)) (inl found) = prices_exclude input.goods prices priced found
    welfare_excludes shown prices t part (priced, (holds, done)) (inr (h, inl found)) = welfare_part_excludes shown (slice_index prices) t part holds found
    welfare_excludes shown prices t part (priced, (holds, done)) (inr (h, inr none)) = none.1

    -- ---- an item

    item_excludes : (shown : Bool) (item : Item) → ItemFails input shown item (Ok tt) → ItemFails input shown item (Err e) → ⊥
    item_excludes shown (GarpItem verdict) holds found = garp_excludes input.n (WeakByLevels input.levels input.cost) (StrictByLevels input.levels input.cost) verdict holds found
    item_excludes shown (AfriatItem part) holds found = afriat_excludes input.n input.levels input.cost part holds found
    item_excludes shown (EfficiencyItem evidence) holds found = efficiency_excludes input.n input.cost evidence holds found
    item_excludes shown (HomotheticItem verdict) holds found = homothetic_excludes input.n input.cost verdict holds found
    item_excludes shown (QuasiItem verdict) holds found = quasilinear_excludes input.n input.cost verdict holds found
    item_excludes shown (DemandItem prices m part) (levels, (holds, done)) (inl (not, is)) = not levels
    item_excludes shown (DemandItem prices m part) (levels, (holds, done)) (inr (h, inl found)) = demand_excludes shown prices m part holds found
    item_excludes shown (DemandItem prices m part) (levels, (holds, done)) (inr (h, inr none)) = none.1
    item_excludes shown (WelfareItem prices of part) (levels, (holds, done)) (inl (not, is)) = not levels
    item_excludes shown (WelfareItem prices of part) (levels, (holds, done)) (inr (h, inl found)) = welfare_excludes shown prices of part holds found
    item_excludes shown (WelfareItem prices of part) (levels, (holds, done)) (inr (h, inr none)) = none.1
    item_excludes shown (RandomItem total part) holds found = found

  -- ---- the levels

  levels_exclude : (levels claimed : List ℕ) → LevelsFail levels claimed (Ok tt) → LevelsFail levels claimed (Err e) → ⊥
  levels_exclude levels claimed (one_each, (alike, done)) (inl (not, is)) = not one_each
  levels_exclude levels claimed (one_each, (alike, done)) (inr (h, inl (k, within, (not, is), before))) = not (alike k within)
  levels_exclude levels claimed (one_each, (alike, done)) (inr (h, inr none)) = none.1

-- what is accepted is not rejected
pub only_accepted : (input : TableInput) (levels : List ℕ) (items : List Item) (verdict : Verdict) → IsCheckVerdict input levels items Accepted → IsCheckVerdict input levels items verdict → verdict ≡ Accepted
only_accepted input levels items verdict (inl none) is = absurd none
only_accepted input levels items Accepted (inr holds) is = refl
only_accepted input levels items (Rejected item reason place) (inr (alike, holds)) (inl (whole, found)) =
    absurd (levels_exclude (record { reason = reason; place = place }) input.levels levels alike found)
only_accepted input levels items (Rejected item reason place) (inr (alike, holds)) (inr (same, (k, within, number, found, before))) =
    absurd (item_excludes (record { reason = reason; place = place }) input (one_shows_garp (take k items)) (slice_index_or items k any_item) (holds k within any_item) (found any_item))
