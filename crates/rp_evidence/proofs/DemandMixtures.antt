-- Mixtures of a bundle that costs enough with a supporting demand, and sums over goods.
use Rattle.std.proofs.Common.{◌≡◌, ◌<◌, ◌≤◌, ◌+◌, ◌*◌, ◌-◌, ℕ, zero, suc, refl, sym, subst, ◌∙◌, ap, arith}
use Rattle.std.proofs.Math.Nat.{mul-le-mul_left, mul-lt-mul_of_pos_left, mul-pos}
use Rattle.rp_table.proofs.SpendingLaws.{spending-same}
use Rattle.rp_evidence.specs.Demand.{BudgetInput, FractionBundle, IsOnBudget, IsSupportingDemand, IsBelow, CostsEnough, CostsMore, mixed, spending}
use Rattle.rp_evidence.specs.Garp.{MeetsGarp}
use Rattle.rp_evidence.specs.Input.{TableInput}
use Rattle.rp_evidence.proofs.DemandLaws.{keeps, enough_where_kept, more_where_kept}

-- what a sum of two bundles costs
pub spending_of_sum : (goods : ℕ) (prices x z : ℕ → ℕ) (a b : ℕ) → spending goods prices (λ g. a * x g + b * z g) ≡ a * spending goods prices x + b * spending goods prices z
spending_of_sum zero prices x z a b = omega arith
spending_of_sum (suc k) prices x z a b =
    let h = spending_of_sum k prices x z a b in
    omega arith

spending_mixed : (goods : ℕ) (prices : ℕ → ℕ) (k : ℕ) (x z : FractionBundle)
    → spending goods prices (mixed k x z).num ≡ ((k - 1) * z.den) * spending goods prices x.num + x.den * spending goods prices z.num
spending_mixed goods prices k x z =
    spending-same goods goods prices (mixed k x z).num prices (λ g. ((k - 1) * z.den) * x.num g + x.den * z.num g) refl (λ g l. refl) (λ g l. omega arith)
    ∙ spending_of_sum goods prices x.num z.num ((k - 1) * z.den) x.den

module _ (input : TableInput) (budget : BudgetInput) (x z : FractionBundle) (k : ℕ) (some : 0 < k) where
  mixed_on_budget : IsOnBudget input budget x → IsOnBudget input budget z → IsOnBudget input budget (mixed k x z)
  mixed_on_budget on_x on_z = record {
    fraction = mul-pos some (mul-pos on_x.fraction on_z.fraction);
    spent =
        let e = spending_mixed input.goods budget.prices k x z in
        let a : ((k - 1) * z.den) * spending input.goods budget.prices x.num ≡ ((k - 1) * z.den) * (x.den * budget.expenditure) = ap (λ v. ((k - 1) * z.den) * v) on_x.spent in
        let b : x.den * spending input.goods budget.prices z.num ≡ x.den * (z.den * budget.expenditure) = ap (λ v. x.den * v) on_z.spent in
        let d : ((k - 1) * z.den) * (x.den * budget.expenditure) + x.den * (z.den * budget.expenditure) ≡ (k * (x.den * z.den)) * budget.expenditure = whole (k - 1) k (omega arith) in
        omega arith;
  }
    where
      whole : (j k : ℕ) → k ≡ j + 1 → (j * z.den) * (x.den * budget.expenditure) + x.den * (z.den * budget.expenditure) ≡ (k * (x.den * z.den)) * budget.expenditure
      whole j k e = subst (λ v. (j * z.den) * (x.den * budget.expenditure) + x.den * (z.den * budget.expenditure) ≡ (v * (x.den * z.den)) * budget.expenditure) (sym e) (omega arith)

  spent_at : (c : ℕ) → (k * (x.den * z.den)) * c ≡ ((k - 1) * z.den) * (x.den * c) + x.den * (z.den * c)
  spent_at c = go (k - 1) k (omega arith)
    where
      go : (j k : ℕ) → k ≡ j + 1 → (k * (x.den * z.den)) * c ≡ (j * z.den) * (x.den * c) + x.den * (z.den * c)
      go j k e = subst (λ v. (v * (x.den * z.den)) * c ≡ (j * z.den) * (x.den * c) + x.den * (z.den * c)) (sym e) (omega arith)

  mixed_costs_enough : CostsEnough input budget x → CostsEnough input budget z → CostsEnough input budget (mixed k x z)
  mixed_costs_enough of_x of_z t t_in below =
      let e = spending_mixed input.goods (input.price t) k x z in
      let s = spent_at (input.cost t t) in
      let a : ((k - 1) * z.den) * (x.den * input.cost t t) ≤ ((k - 1) * z.den) * spending input.goods (input.price t) x.num = mul-le-mul_left ((k - 1) * z.den) (of_x t t_in below) in
      let b : x.den * (z.den * input.cost t t) ≤ x.den * spending input.goods (input.price t) z.num = mul-le-mul_left x.den (of_z t t_in below) in
      omega arith

  mixed_costs_more : 0 < x.den → CostsEnough input budget x → CostsMore input budget z → CostsMore input budget (mixed k x z)
  mixed_costs_more x_some of_x of_z t t_in below =
      let e = spending_mixed input.goods (input.price t) k x z in
      let s = spent_at (input.cost t t) in
      let weakly : IsBelow input budget t = record { from = below.from; walk = below.walk; bought = below.bought; leads = below.leads } in
      let a : ((k - 1) * z.den) * (x.den * input.cost t t) ≤ ((k - 1) * z.den) * spending input.goods (input.price t) x.num = mul-le-mul_left ((k - 1) * z.den) (of_x t t_in weakly) in
      let b : x.den * (z.den * input.cost t t) < x.den * spending input.goods (input.price t) z.num = mul-lt-mul_of_pos_left (of_z t t_in below) x_some in
      omega arith

  pub mixture_supports : MeetsGarp input.n input.cost → IsOnBudget input budget x → CostsEnough input budget x → IsSupportingDemand input budget z → IsSupportingDemand input budget (mixed k x z)
  mixture_supports sound on_x of_x kept =
      keeps input budget (mixed k x z) sound (mixed_on_budget on_x kept.on_budget)
      (mixed_costs_enough of_x (enough_where_kept input budget z kept))
      (mixed_costs_more on_x.fraction of_x (more_where_kept input budget z kept))
