-- Why the bounds from below hold: the feasible prices of the program are the inputs of the outer set.
use Rattle.std.proofs.Common.{◌≡◌, ◌<◌, ◌≤◌, ◌↔◌, ◌*◌, ℕ, ℤ, pos, ◌*ℤ◌, ◌≤ℤ◌, List, length, slice_index, subst, sym, ap, ◌∙◌, arith}
use Rattle.std.proofs.lemmas.Int.{ints}
use Rattle.std.proofs.lemmas.List.{get_or_default}
use Rattle.std.specs.Int.RustNames.{unsigned_abs}
use Rattle.rp_simplex.specs.ProgramBound.{IsBoundOf, ShowsLeastCost}
use Rattle.rp_simplex.proofs.RunBounds.{least_in_lowest_terms, same_measure}
use Rattle.rp_evidence.specs.BoundEvidence.{BoundHolds}
use Rattle.rp_evidence.specs.Demand.{FractionBundle, spending}
use Rattle.rp_evidence.specs.Input.{TableInput}
use Rattle.rp_evidence.specs.LeastCost.{least_cost_program}
use Rattle.rp_evidence.specs.declared.demand.Bound.{Bound}
use Rattle.rp_evidence.specs.declared.demand.Bound.TheVariants.{Shown, Wide}
use Rattle.rp_evidence.proofs.DemandBounds.{total_of_sum}
use Rattle.rp_farkas.specs.Best.{IsLeastCost}
use Rattle.rp_farkas.specs.Listing.{numerator_at}
use Rattle.rp_farkas.specs.Measure.{measured}
use Rattle.rp_farkas.specs.Prices.{IsFeasiblePrices, column_times}
use Rattle.rp_farkas.specs.declared.measure.Measure.TheVariants.{Cost}
use Rattle.rp_farkas.proofs.Duality.{best_prices}
use Rattle.rp_num.specs.Fraction.{IsLowestTerms}
use Rattle.rp_clauses.proofs.BoundMeasures.{holds_alike}
use Rattle.rp_programs.proofs.LeastCosts.{cost_is, measure_is}
use Rattle.rp_cost.specs.CostBounds.{LowerHolds, ProvesLowerCost}
use Rattle.rp_producers.specs.OuterSet.{IsInOuterSet, IsLowerCost, ListsNotAbove}

-- ---- what the price side costs is what it costs at the new prices

module _ (input : TableInput) (prices : ℕ → ℕ) (listed : List ℕ) where
  pub cost_bound : (bound : Bound) → IsBoundOf (least_cost_program input prices listed) (measured (least_cost_program input prices listed) Cost) bound
      → IsBoundOf (least_cost_program input prices listed) (spending input.goods prices) bound
  cost_bound bound is =
      same_measure (least_cost_program input prices listed) (measured (least_cost_program input prices listed) Cost) (spending input.goods prices) (measure_is input prices listed) bound is

  pub cost_holds : (bound : Bound) → BoundHolds (least_cost_program input prices listed) (measured (least_cost_program input prices listed) Cost) bound
      ↔ BoundHolds (least_cost_program input prices listed) (spending input.goods prices) bound
  cost_holds =
      holds_alike (least_cost_program input prices listed) (measured (least_cost_program input prices listed) Cost) (spending input.goods prices) (measure_is input prices listed)

-- ---- feasible prices and the outer set

module _ (input : TableInput) (y : ℕ → ℕ) (y0 : ℕ) (prices : ℕ → ℕ) (listed : List ℕ) (lists : ListsNotAbove input y y0 listed) where
  column_is : (j : ℕ) (x : ℕ → ℕ) → column_times (least_cost_program input prices listed) j x ≡ pos (spending input.goods (input.price (slice_index listed j)) x)
  column_is j x = total_of_sum input.goods (input.price (slice_index listed j)) x

  in_outer_set : (den : ℕ) (x : ℕ → ℕ) → IsFeasiblePrices (least_cost_program input prices listed) den x → IsInOuterSet input y y0 (record { den = den; num = x })
  in_outer_set den x f = record { fraction = f.den_positive; dear = dear }
    where
      dear : (t : ℕ) → t < input.n → y t ≤ y0 → den * input.cost t t ≤ spending input.goods (input.price t) x
      dear t t_in made =
          let there = (lists.just_these t).1 (t_in, made) in
          let at : slice_index listed there.0 ≡ t = get_or_default listed there.0 0 t there.1 ∙ there.2 in
          let h = rw (column_is there.0 x) at (f.columns_hold there.0 there.1) in
          subst (λ q. den * input.cost q q ≤ spending input.goods (input.price q) x) at (omega (arith, ints, h))

  pub outer_is_feasible : (bundle : FractionBundle) → IsInOuterSet input y y0 bundle → IsFeasiblePrices (least_cost_program input prices listed) bundle.den bundle.num
  outer_is_feasible bundle r = record { den_positive = r.fraction; columns_hold = columns }
    where
      columns : (j : ℕ) → j < length listed → (pos (input.cost (slice_index listed j) (slice_index listed j)) *ℤ pos bundle.den) ≤ℤ column_times (least_cost_program input prices listed) j bundle.num
      columns j l =
          let there = (lists.just_these (slice_index listed j)).0 (j, l, get_or_default listed j (slice_index listed j) 0 l) in
          let h = r.dear (slice_index listed j) there.0 there.1 in
          rw (column_is j bundle.num) (omega (arith, ints, h))

  -- the least cost of the program is the least over the outer set
  least_over_outer : (num den : ℕ) → IsLeastCost (least_cost_program input prices listed) num den → IsLowerCost input y y0 prices num den
  least_over_outer num den least = record {
    fraction = least.fraction;
    none_less = none_less;
    reached = (record { den = least.attained.0; num = least.attained.1 }, in_outer_set least.attained.0 least.attained.1 least.attained.2, same);
  }
    where
      none_less : (bundle : FractionBundle) → IsInOuterSet input y y0 bundle → num * bundle.den ≤ spending input.goods prices bundle.num * den
      none_less bundle r =
          let h = least.none_less bundle.den bundle.num (outer_is_feasible bundle r) in
          let k = subst (λ (z : ℤ). pos (num * bundle.den) ≤ℤ (z *ℤ pos den)) (cost_is input prices listed bundle.num) h in
          omega (arith, ints, k)

      same : spending input.goods prices least.attained.1 * den ≡ num * least.attained.0
      same =
          let k = subst (λ (z : ℤ). (z *ℤ pos den) ≡ pos (num * least.attained.0)) (cost_is input prices listed least.attained.1) least.attained.3 in
          omega (arith, ints, k)

  pub least_proves : (bound : Bound) → ShowsLeastCost (least_cost_program input prices listed) bound → ProvesLowerCost input y y0 prices bound
  least_proves (Shown value pair) least = least_over_outer value.num value.den least
  least_proves (Wide step) least = tt

-- evidence that holds proves the bound, by the duality of linear programming
pub holds_proves : (input : TableInput) (y : ℕ → ℕ) (y0 : ℕ) (prices : ℕ → ℕ) (bound : Bound) → LowerHolds input y y0 prices bound → ProvesLowerCost input y y0 prices bound
holds_proves input y y0 prices (Shown value pair) (listed, lists, (equal, lowest)) =
    let p = least_cost_program input prices listed in
    least_over_outer input y y0 prices listed lists value.num value.den
    (least_in_lowest_terms p (λ x. cost_is input prices listed x ∙ ap (λ (z : ℤ). pos (unsigned_abs z)) (sym (cost_is input prices listed x))) pair.den (slice_index pair.x)
    (best_prices p pair.den (numerator_at pair.y) (slice_index pair.x) equal.equal) value
    (subst (λ (n : ℕ). IsLowestTerms n pair.den value) (sym (measure_is input prices listed (slice_index pair.x))) lowest))
holds_proves input y y0 prices (Wide step) holds = tt
