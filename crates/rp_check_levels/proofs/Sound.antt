-- Accepted evidence proves what it says.
use Rattle.std.proofs.Common.{◌≡◌, ◌<◌, ◌≤◌, ◌+◌, ◌-◌, ◌*◌, ◌^◌, ◌⊎◌, ℕ, zero, suc, false, List, [], ◌∷◌, Result, Ok, Err, inl, inr, refl, sym, ap, subst, ◌∙◌, arith, length, slice_index}
use Rattle.std.specs.Prelude.{IfOk}
use Rattle.std.proofs.Math.Nat.{mul-le-mul_left}
use Rattle.std.proofs.lemmas.Nat.{mul-add-lt}
use Rattle.rp_evidence.specs.Preference.{IsStrict}
use Rattle.rp_evidence.specs.Walk.{IsClosedWalk}
use Rattle.rp_evidence.specs.declared.failure.Failure.{Failure}
use Rattle.rp_table.specs.Cost.{CostTable, IsCostTable, IsCostsOf, cost_of}
use Rattle.rp_table.specs.Tables.{Observations, records_of}
use Rattle.rp_fit.specs.Levels.{AreLevels}
use Rattle.rp_fit.specs.LevelsEvidence.{ProvesLevels, level_den, level_num, power_of}
use Rattle.rp_fit.specs.Steps.{CostsAtLeast, IsEnough, IsLeft, taken_cost}
use Rattle.rp_fit.specs.StepsEvidence.{ProvesSteps, is_taken}
use Rattle.rp_fit.specs.WeightedWalks.{weight_by, weight_of_all}
use Rattle.rp_fit.specs.declared.levels.Lack.{Lack}
use Rattle.rp_fit.specs.declared.levels.Lack.TheVariants.{Mean, Squares}
use Rattle.rp_fit.specs.declared.levels.LevelsPart.{LevelsPart}
use Rattle.rp_fit.specs.declared.steps.StepsPart.{StepsPart}
use Rattle.rp_fit.specs.declared.weighted.WeightedWalk.{WeightedWalk}
use Rattle.rp_fit.proofs.FallingRanks.{no_closed_walk_under_ranks}
use Rattle.rp_check_levels.specs.LevelsFailure.{LevelsFail, IsLevelAt, measure_of}
use Rattle.rp_check_levels.specs.Loads.{goes_as_dear, lack_floor}
use Rattle.rp_check_levels.specs.StepsFailure.{StepsFail}
use Rattle.rp_check_levels.specs.WalksFailure.{LoadsFail, WalksFail}
use Rattle.rp_check_levels.proofs.CarriedSteps.{AreStrict}
use Rattle.rp_check_levels.proofs.LevelsLower.{index_is_at_least}
use Rattle.rp_check_levels.proofs.LevelsUpper.{holds_below, index_is_at_most}
use Rattle.rp_check_levels.proofs.StepsBound.{costs_at_least}

-- all walks that are found nothing wrong with are closed walks of strict steps
pub walks_are_strict : (n : ℕ) (c : ℕ → ℕ → ℕ) (walks : List WeightedWalk) → WalksFail n c walks (Ok tt) → AreStrict n c walks
walks_are_strict n c [] found = tt
walks_are_strict n c (each ∷ walks) found = ((found 0 (omega arith)).1.0.closed, walks_are_strict n c walks (λ k l. found (suc k) (omega (arith, l))))

pub steps_prove : (n : ℕ) (c : ℕ → ℕ → ℕ) (part : StepsPart) (r : Result (Unit {0}) Failure) → StepsFail n c part r → IfOk r (λ done. ProvesSteps n c part)
steps_prove n c part (Err e) found = tt
steps_prove n c part (Ok done) (some, (taken, (cost, (walks, (loads, end))))) = record {
  enough = enough;
  costs = cost;
  at_least = at_least;
  index = λ more. record { reached = (is_taken part.taken, enough, cost); least = least more };
}
  where
    falls : (s t : ℕ) → s < n → t < n → IsLeft c (is_taken part.taken) s t → slice_index part.ranks t < slice_index part.ranks s
    falls s t s_in t_in left = taken.1.1.1.0 s s_in t t_in left.0 left.1

    enough : IsEnough n c (is_taken part.taken)
    enough = no_closed_walk_under_ranks n (IsLeft c (is_taken part.taken)) part.ranks falls

    at_least : CostsAtLeast n c (weight_of_all part.walks) part.den
    at_least = costs_at_least n c part.den part.walks (walks_are_strict n c part.walks walks) (λ s t s_in t_in strict. loads s s_in t t_in strict)

    exceeds : (den cost weight other : ℕ) → den * cost < weight + den → weight ≤ den * other → cost ≤ other
    exceeds den cost weight other more most = go (by_cases cost other)
      where
        by_cases : (a b : ℕ) → (a ≤ b) ⊎ (suc b ≤ a)
        by_cases a b = grind arith

        go : (cost ≤ other) ⊎ (suc other ≤ cost) → cost ≤ other
        go (inl l) = l
        go (inr l) = let a : den * suc other ≤ den * cost = mul-le-mul_left den l in absurd (omega (arith, a, more, most))

    least : part.den * part.cost < weight_of_all part.walks + part.den → CostsAtLeast n c part.cost 1
    least more other is_enough =
        let a = exceeds part.den part.cost (weight_of_all part.walks) (taken_cost n c other) more (at_least other is_enough) in
        omega (arith, a)

-- ---- levels

pub cost_positive : (costs : CostTable) (table : Observations) → IsCostTable costs → IsCostsOf costs table → (s t : ℕ) → s < records_of table → t < records_of table → 1 ≤ cost_of table s t
cost_positive costs table valid of s t s_in t_in =
    let s_small : s < costs.n = omega (arith, of.size, s_in) in
    let t_small : t < costs.n = omega (arith, of.size, t_in) in
    let h = (valid.limits (s * costs.n + t) 0 (omega (arith, mul-add-lt s costs.n t costs.n s_small t_small, valid.all))).0 in
    omega (arith, h, of.each s t s_in t_in)

kind_of : (lack : Lack) → (power_of lack ≡ 1) ⊎ (power_of lack ≡ 2)
kind_of Mean = inl refl
kind_of Squares = inr refl

loads_as_dear : (n : ℕ) (c : ℕ → ℕ → ℕ) (lack : Lack) (den : ℕ) (walks : List WeightedWalk) → LoadsFail n c (measure_of lack) den walks (Ok tt)
    → (s t : ℕ) → s < n → t < n → IsStrict c s t → weight_by (goes_as_dear c s t) walks ≤ den * lack_floor (power_of lack) c s t
loads_as_dear n c Mean den walks loads s t s_in t_in strict = loads s s_in t t_in strict
loads_as_dear n c Squares den walks loads s t s_in t_in strict = loads s s_in t t_in strict

pub levels_prove_of_costs : (n : ℕ) (c : ℕ → ℕ → ℕ) → ((s t : ℕ) → s < n → t < n → 1 ≤ c s t) → (part : LevelsPart) (r : Result (Unit {0}) Failure) → LevelsFail n c part r → IfOk r (λ done. ProvesLevels n c part)
levels_prove_of_costs n c positive part (Err e) found = tt
levels_prove_of_costs n c positive part (Ok done) (some, (levels, (walks, (loads, end)))) = record {
  levels = are_levels;
  holds_below = holds_below n c (level_num c part) (level_den c) part.ranks (λ s s_in. refl) falls;
  at_most = index_is_at_most n c (level_num c part) (level_den c) part.ranks (λ s s_in. refl) falls are_levels (power_of part.lack) (kind_of part.lack);
  at_least = index_is_at_least n c (power_of part.lack) part.den part.walks (walks_are_strict n c part.walks walks) (λ s s_in. positive s s s_in s_in) (loads_as_dear n c part.lack part.den part.walks loads);
}
  where
    falls : (s t : ℕ) → s < n → t < n → c s t < level_num c part s → slice_index part.ranks t < slice_index part.ranks s
    falls s t s_in t_in less = levels.1.1.1.0 s s_in t t_in less

    no_dearer : (s t : ℕ) → (t ≡ s) ⊎ IsStrict c s t → c s t ≤ c s s
    no_dearer s t (inl e) = subst (λ z. c s z ≤ c s s) (sym e) (omega arith)
    no_dearer s t (inr h) = omega (arith, h)

    are_levels : AreLevels n (level_num c part) (level_den c)
    are_levels s s_in =
        let l = levels.1.1.0 s s_in in
        (positive s (slice_index part.at s) s_in l.0, no_dearer s (slice_index part.at s) l.1)

pub levels_prove : (costs : CostTable) (table : Observations) → IsCostTable costs → IsCostsOf costs table → (part : LevelsPart) (r : Result (Unit {0}) Failure) → LevelsFail (records_of table) (cost_of table) part r
    → IfOk r (λ done. ProvesLevels (records_of table) (cost_of table) part)
levels_prove costs table valid of = levels_prove_of_costs (records_of table) (cost_of table) (cost_positive costs table valid of)
