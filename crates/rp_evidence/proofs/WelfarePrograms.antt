-- The program of a lower bound of welfare is bounded: what equals or reaches the observation is one of its price vectors.
use Rattle.std.proofs.Common.{◌≡◌, ◌<◌, ◌*◌, ℕ, ℤ, pos, ◌*ℤ◌, ◌≤ℤ◌, ◌<ℤ◌, List, [], ◌∷◌, refl, subst, arith}
use Rattle.std.proofs.lemmas.Int.{ints}
use Rattle.rp_farkas.specs.Best.{HasNoBound}
use Rattle.rp_farkas.specs.Point.{IsFeasiblePoint, value_of}
use Rattle.rp_farkas.specs.Prices.{value_of_prices}
use Rattle.rp_farkas.specs.Ray.{IsRay}
use Rattle.rp_farkas.proofs.Duality.{no_bound, weak_duality}
use Rattle.rp_evidence.specs.Demand.{spending}
use Rattle.rp_evidence.specs.Garp.{MeetsGarp}
use Rattle.rp_evidence.specs.Input.{TableInput}
use Rattle.rp_evidence.specs.BoundEvidence.{NoneWorthMore}
use Rattle.rp_evidence.specs.LeastCost.{least_cost_program}
use Rattle.rp_evidence.specs.Welfare.{EqualsOrReaches, ListsReached}
use Rattle.rp_evidence.proofs.DemandBounds.{total_of_sum}
use Rattle.rp_evidence.proofs.WelfareLaws.{reaching_in_region, region_is_feasible}

module _ (input : TableInput) (prices : ℕ → ℕ) (t : ℕ) (reached : List ℕ) (lists : ListsReached input t reached) (sound : MeetsGarp input.n input.cost) where
  pub none_worth_more : (s : ℕ) → EqualsOrReaches input s t → NoneWorthMore (least_cost_program input prices reached) (spending input.goods prices (input.quantity s))
  none_worth_more s leads den y point =
      let feasible = region_is_feasible input prices t reached lists (record { den = 1; num = input.quantity s }) (reaching_in_region input s t sound leads) in
      let h = weak_duality (least_cost_program input prices reached) den 1 y (input.quantity s) point feasible in
      let e : value_of_prices (least_cost_program input prices reached) (input.quantity s) ≡ pos (spending input.goods prices (input.quantity s)) = total_of_sum input.goods prices (input.quantity s) in
      at_most (value_of (least_cost_program input prices reached) y) (value_of_prices (least_cost_program input prices reached) (input.quantity s)) (spending input.goods prices (input.quantity s)) den e h
    where
      at_most : (v c : ℤ) (k d : ℕ) → c ≡ pos k → (v *ℤ pos 1) ≤ℤ (c *ℤ pos d) → v ≤ℤ pos (k * d)
      at_most v c k d e h =
          let q : (v *ℤ pos 1) ≤ℤ (pos k *ℤ pos d) = subst (λ (z : ℤ). (v *ℤ pos 1) ≤ℤ (z *ℤ pos d)) e h in
          omega (arith, ints, q)

  module _ (t_in : t < input.n) where
    own : NoneWorthMore (least_cost_program input prices reached) (spending input.goods prices (input.quantity t))
    own = none_worth_more t (t ∷ [], (refl, (t_in, refl)))

    pub has_bound : ¬ HasNoBound (least_cost_program input prices reached)
    has_bound none =
        let k : ℕ = spending input.goods prices (input.quantity t) in
        let beyond = none (pos k) 1 (omega arith) in
        let h = own beyond.den beyond.point beyond.feasible in
        not_both (value_of (least_cost_program input prices reached) beyond.point) k beyond.den h beyond.above
      where
        not_both : (v : ℤ) (k d : ℕ) → v ≤ℤ pos (k * d) → ¬ ((pos k *ℤ pos d) <ℤ (v *ℤ pos 1))
        not_both v k d h l = omega (arith, ints, h, l)

    -- a ray would be a feasible point, along which feasible points pass every value
    pub no_ray : (ray : ℕ → ℕ) → ¬ IsRay (least_cost_program input prices reached) ray
    no_ray ray is = has_bound (no_bound (least_cost_program input prices reached) 1 ray ray feasible is)
      where
        feasible : IsFeasiblePoint (least_cost_program input prices reached) 1 ray
        feasible = record { den_positive = omega arith; rows_hold = λ i l. let h = is.rows_hold i l in omega (arith, ints, h) }
