-- The price vectors of the programs of a good are the bundles on the new budget that cost enough, so an equal pair has the
-- infimum or the supremum of the good over supporting demands.
use Rattle.std.proofs.Common.{◌≡◌, ◌<◌, ◌≤◌, ◌+◌, ◌*◌, ◌-◌, inl, inr, ℕ, zero, suc, ℤ, pos, neg_ℤ, ◌+ℤ◌, ◌*ℤ◌, ◌≤ℤ◌, List, length, slice_index, refl, sym, subst, ◌∙◌, ap, arith, eqb, cond, Bool, true, false}
use Rattle.std.proofs.lemmas.Int.{ints}
use Rattle.std.proofs.Math.Nat.{le_of_mul-le-mul_left, mul-le-mul_left, mul-pos}
use Rattle.std.proofs.lemmas.List.{get_or_default}
use Rattle.std.proofs.lemmas.Bool.{cases_lt, cond-false, cond-true, eq-eqb, lt-ltb, le-ltb, ne_eqb}
use Rattle.rp_farkas.specs.Best.{IsBestPrices}
use Rattle.rp_farkas.specs.EqualPair.{IsEqualPair}
use Rattle.rp_farkas.specs.Prices.{IsFeasiblePrices, column_times, value_of_prices}
use Rattle.rp_farkas.specs.Total.{total}
use Rattle.rp_farkas.proofs.Integers.{plus_times}
use Rattle.rp_farkas.proofs.Duality.{best_prices}
use Rattle.rp_farkas.proofs.Totals.{total-add, total-same}
use Rattle.rp_table.specs.Sums.{sum_below}
use Rattle.rp_evidence.specs.Demand.{BudgetInput, FractionBundle, IsInfimum, IsOnBudget, IsSupportingDemand, IsSupremum, CostsEnough, mixed, spending}
use Rattle.rp_evidence.specs.DemandPrograms.{ListsBelow, demand_program, demand_worth, lower_program, upper_program}
use Rattle.rp_evidence.specs.Garp.{MeetsGarp}
use Rattle.rp_evidence.specs.Input.{TableInput}
use Rattle.rp_evidence.proofs.DemandLaws.{enough_where_kept}
use Rattle.rp_evidence.proofs.DemandMixtures.{mixture_supports}

-- ---- sums over goods as totals

pub total_of_sum : (k : ℕ) (f x : ℕ → ℕ) → total k (λ i. pos (f i) *ℤ pos (x i)) ≡ pos (sum_below k (λ i. f i * x i))
unfolding total
total_of_sum zero f x = refl
total_of_sum (suc k) f x = ap (λ v. v +ℤ pos (f k * x k)) (total_of_sum k f x)

negated_times : (a b : ℕ) → neg_ℤ (pos a) *ℤ pos b ≡ neg_ℤ (pos (a * b))
negated_times zero b = omega (arith, ints)
negated_times (suc a) b = refl

total_of_negated : (k : ℕ) (f x : ℕ → ℕ) → total k (λ i. neg_ℤ (pos (f i)) *ℤ pos (x i)) ≡ neg_ℤ (pos (sum_below k (λ i. f i * x i)))
unfolding total
total_of_negated zero f x = refl
total_of_negated (suc k) f x =
    let h = total_of_negated k f x in
    let e = negated_times (f k) (x k) in
    omega (arith, ints, h, e)

-- only one place counts
total_past : (k g : ℕ) (w : ℕ → ℤ) → k ≤ g → total k (λ i. cond (eqb i g) (w i) (pos 0)) ≡ pos 0
unfolding total
total_past zero g w l = refl
total_past (suc k) g w l =
    let h = total_past k g w (omega arith) in
    let e : cond (eqb k g) (w k) (pos 0) ≡ pos 0 = cond-false (eqb k g) (w k) (pos 0) (ne_eqb k g (λ e. omega arith)) in
    omega (arith, ints, h, e)

total_at : (k g : ℕ) (w : ℕ → ℤ) → g < k → total k (λ i. cond (eqb i g) (w i) (pos 0)) ≡ w g
unfolding total
total_at zero g w l = absurd (omega arith)
total_at (suc k) g w l = elim (cases_lt g k) [
  | inl less ↦
      let h = total_at k g w less in
      let e : cond (eqb k g) (w k) (pos 0) ≡ pos 0 = cond-false (eqb k g) (w k) (pos 0) (ne_eqb k g (λ e. omega arith)) in
      omega (arith, ints, h, e)
  | inr last ↦
      let same : k ≡ g = omega arith in
      let h = total_past k g w (omega arith) in
      let e : cond (eqb k g) (w k) (pos 0) ≡ w k = cond-true (eqb k g) (w k) (pos 0) (eq-eqb k g same) in
      let f : w k ≡ w g = ap w same in
      omega (arith, ints, h, e, f)
]

-- ---- the price vectors of these programs

module _ (input : TableInput) (budget : BudgetInput) (below : List ℕ) (right : ℕ → ℤ) where
  at_observation : (j : ℕ) (x : ℕ → ℕ) → j < length below
      → column_times (demand_program input budget below right) j x ≡ pos (spending input.goods (input.price (slice_index below j)) x)
  at_observation j x l =
      total-same input.goods _ (λ i. pos (input.price (slice_index below j) i) *ℤ pos (x i))
      (λ i h. ap (λ b. cond b (pos (input.price (slice_index below j) i)) (cond (eqb j (length below)) (pos (budget.prices i)) (neg_ℤ (pos (budget.prices i)))) *ℤ pos (x i)) (lt-ltb j (length below) l))
      ∙ total_of_sum input.goods (input.price (slice_index below j)) x

  at_budget : (x : ℕ → ℕ) → column_times (demand_program input budget below right) (length below) x ≡ pos (spending input.goods budget.prices x)
  at_budget x =
      total-same input.goods _ (λ i. pos (budget.prices i) *ℤ pos (x i))
      (λ i h. ap (λ b. cond b (pos (input.price (slice_index below (length below)) i)) (cond (eqb (length below) (length below)) (pos (budget.prices i)) (neg_ℤ (pos (budget.prices i)))) *ℤ pos (x i)) (le-ltb (length below) (length below) (omega arith))
      ∙ ap (λ b. cond b (pos (budget.prices i)) (neg_ℤ (pos (budget.prices i))) *ℤ pos (x i)) (eq-eqb (length below) (length below) refl))
      ∙ total_of_sum input.goods budget.prices x

  at_negated : (x : ℕ → ℕ) → column_times (demand_program input budget below right) (length below + 1) x ≡ neg_ℤ (pos (spending input.goods budget.prices x))
  at_negated x =
      total-same input.goods _ (λ i. neg_ℤ (pos (budget.prices i)) *ℤ pos (x i))
      (λ i h. ap (λ b. cond b (pos (input.price (slice_index below (length below + 1)) i)) (cond (eqb (length below + 1) (length below)) (pos (budget.prices i)) (neg_ℤ (pos (budget.prices i)))) *ℤ pos (x i)) (le-ltb (length below + 1) (length below) (omega arith))
      ∙ ap (λ b. cond b (pos (budget.prices i)) (neg_ℤ (pos (budget.prices i))) *ℤ pos (x i)) (ne_eqb (length below + 1) (length below) (λ e. omega arith)))
      ∙ total_of_negated input.goods budget.prices x

  worth_at : (j : ℕ) → j < length below → demand_worth input budget below j ≡ pos (input.cost (slice_index below j) (slice_index below j))
  worth_at j l = ap (λ b. cond b (pos (input.cost (slice_index below j) (slice_index below j))) (cond (eqb j (length below)) (pos budget.expenditure) (neg_ℤ (pos budget.expenditure)))) (lt-ltb j (length below) l)

  worth_of_budget : demand_worth input budget below (length below) ≡ pos budget.expenditure
  worth_of_budget =
      ap (λ b. cond b (pos (input.cost (slice_index below (length below)) (slice_index below (length below)))) (cond (eqb (length below) (length below)) (pos budget.expenditure) (neg_ℤ (pos budget.expenditure)))) (le-ltb (length below) (length below) (omega arith))
      ∙ ap (λ b. cond b (pos budget.expenditure) (neg_ℤ (pos budget.expenditure))) (eq-eqb (length below) (length below) refl)

  worth_negated : demand_worth input budget below (length below + 1) ≡ neg_ℤ (pos budget.expenditure)
  worth_negated =
      ap (λ b. cond b (pos (input.cost (slice_index below (length below + 1)) (slice_index below (length below + 1)))) (cond (eqb (length below + 1) (length below)) (pos budget.expenditure) (neg_ℤ (pos budget.expenditure)))) (le-ltb (length below + 1) (length below) (omega arith))
      ∙ ap (λ b. cond b (pos budget.expenditure) (neg_ℤ (pos budget.expenditure))) (ne_eqb (length below + 1) (length below) (λ e. omega arith))

  -- a bundle on the budget that costs enough at each listed observation
  pub record IsPriced (den : ℕ) (x : ℕ → ℕ) : Type 0 where
    pub some : 0 < den
    pub spent : spending input.goods budget.prices x ≡ den * budget.expenditure
    pub enough : (j : ℕ) → j < length below → den * input.cost (slice_index below j) (slice_index below j) ≤ spending input.goods (input.price (slice_index below j)) x

  pub priced : (den : ℕ) (x : ℕ → ℕ) → IsFeasiblePrices (demand_program input budget below right) den x → IsPriced den x
  priced den x f = record {
    some = f.den_positive;
    spent =
        let up = f.columns_hold (length below) (omega arith) in
        let down = f.columns_hold (length below + 1) (omega arith) in
        let at_least = whole_at_least (spending input.goods budget.prices x) budget.expenditure (rw (at_budget x, worth_of_budget) at up) in
        let at_most = negated_at_most (spending input.goods budget.prices x) budget.expenditure (rw (at_negated x, worth_negated) at down) in
        omega arith;
    enough = λ j l.
        let h = f.columns_hold j (omega arith) in
        whole_at_least (spending input.goods (input.price (slice_index below j)) x) (input.cost (slice_index below j) (slice_index below j)) (rw (at_observation j x l, worth_at j l) at h);
  }
    where
      whole_at_least : (s w : ℕ) → (pos w *ℤ pos den) ≤ℤ pos s → den * w ≤ s
      whole_at_least s w h = omega (arith, ints)

      negated_at_most : (s w : ℕ) → (neg_ℤ (pos w) *ℤ pos den) ≤ℤ neg_ℤ (pos s) → s ≤ den * w
      negated_at_most s w h = let e = negated_times w den in omega (arith, ints, h, e)

  pub prices_feasible : (den : ℕ) (x : ℕ → ℕ) → IsPriced den x → IsFeasiblePrices (demand_program input budget below right) den x
  prices_feasible den x p = record { den_positive = p.some; columns_hold = columns }
    where
      columns : (j : ℕ) → j < length below + 2 → (demand_worth input budget below j *ℤ pos den) ≤ℤ column_times (demand_program input budget below right) j x
      columns j l = elim (cases_lt j (length below)) [
        | inl in_table ↦
            let e = p.enough j in_table in
            rw (at_observation j x in_table, worth_at j in_table) (omega (arith, ints, e))
        | inr past ↦ elim (cases_lt (length below) j) [
          | inl second ↦
              let at : j ≡ length below + 1 = omega arith in
              let e = negated_times budget.expenditure den in
              let s = p.spent in
              subst (λ k. (demand_worth input budget below k *ℤ pos den) ≤ℤ column_times (demand_program input budget below right) k x) (sym at)
              (rw (at_negated x, worth_negated) (omega (arith, ints, e, s)))
          | inr first ↦
              let at : j ≡ length below = omega arith in
              let s = p.spent in
              subst (λ k. (demand_worth input budget below k *ℤ pos den) ≤ℤ column_times (demand_program input budget below right) k x) (sym at)
              (rw (at_budget x, worth_of_budget) (omega (arith, ints, s)))
        ]
      ]

-- ---- the bounds

-- a supporting demand is such prices
module _ (input : TableInput) (budget : BudgetInput) (below : List ℕ) (lists : ListsBelow input budget below) where
  pub supporting_priced : (right : ℕ → ℤ) (w : FractionBundle) → IsSupportingDemand input budget w → IsPriced input budget below right w.den w.num
  supporting_priced right w s = record {
    some = s.on_budget.fraction;
    spent = s.on_budget.spent;
    enough = λ j l.
        let there = (lists.just_these (slice_index below j)).0 (j, l, get_or_default below j (slice_index below j) 0 l) in
        enough_where_kept input budget w s (slice_index below j) there.0 there.1;
  }

module _ (input : TableInput) (budget : BudgetInput) (below : List ℕ) (lists : ListsBelow input budget below) (sound : MeetsGarp input.n input.cost)
    (inner : FractionBundle) (kept : IsSupportingDemand input budget inner) where
  module _ (right : ℕ → ℤ) (den : ℕ) (x : ℕ → ℕ) (p : IsPriced input budget below right den x) where
    priced_on_budget : IsOnBudget input budget (record { den = den; num = x })
    priced_on_budget = record { fraction = p.some; spent = p.spent }

    priced_costs_enough : CostsEnough input budget (record { den = den; num = x })
    priced_costs_enough t t_in is_below =
        let there = (lists.just_these t).1 (t_in, is_below) in
        let at : slice_index below there.0 ≡ t = get_or_default below there.0 0 t there.1 ∙ there.2 in
        subst (λ s. den * input.cost s s ≤ spending input.goods (input.price s) x) at (p.enough there.0 there.1)

    -- every mixture with the inner demand supports
    pub mixtures : (k : ℕ) → 0 < k → IsSupportingDemand input budget (mixed k (record { den = den; num = x }) inner)
    mixtures k some = mixture_supports input budget (record { den = den; num = x }) inner k some sound priced_on_budget priced_costs_enough kept

  -- the mixture with little enough of the inner demand has less, or more, than a fraction that the bundle has less, or more, than
  mixed_less : (d x z e num den : ℕ) → 0 < d → 0 < e → x * den < num * d → (((d * z * den + 1) - 1) * (e * x) + d * z) * den < num * ((d * z * den + 1) * (d * e))
  mixed_less d x z e num den d_some e_some less =
      let k = d * z * den in
      let a : k + 1 - 1 ≡ k = omega arith in
      let b : (k * e) * (x * den + 1) ≤ (k * e) * (num * d) = mul-le-mul_left (k * e) (omega arith) in
      let c : k * 1 ≤ k * e = mul-le-mul_left k e_some in
      let f : 0 < e * (num * d) = mul-pos e_some (omega arith) in
      rw a (omega (arith, b, c, f))

  mixed_more : (d x z e num den : ℕ) → 0 < d → 0 < e → num * d < x * den → num * ((num * d + 2) * (d * e)) < (((num * d + 2) - 1) * (e * x) + d * z) * den
  mixed_more d x z e num den d_some e_some more =
      let k = num * d + 1 in
      let a : num * d + 2 - 1 ≡ k = omega arith in
      let b : (k * e) * (num * d + 1) ≤ (k * e) * (x * den) = mul-le-mul_left (k * e) (omega arith) in
      rw a (omega (arith, b))

  -- ---- the lower bound

  module _ (g den : ℕ) (y x : ℕ → ℕ) (g_in : g < input.goods) where
    lower_cost : (w : ℕ → ℕ) → value_of_prices (lower_program input budget below g) w ≡ pos (w g)
    lower_cost w =
        total-same input.goods _ (λ i. cond (eqb i g) (pos (w i)) (pos 0)) (λ i h. one_part (eqb i g) (w i)) ∙ total_at input.goods g (λ i. pos (w i)) g_in
      where
        one_part : (b : Bool) (n : ℕ) → cond b (pos 1) (pos 0) *ℤ pos n ≡ cond b (pos n) (pos 0)
        one_part true n = omega (arith, ints)
        one_part false n = omega (arith, ints)

    pub lower_is_infimum : IsEqualPair (lower_program input budget below g) den y x → IsInfimum input budget g (x g) den
    lower_is_infimum pair = record {
      fraction = p.some;
      none_less = λ w s less.
          let lowest = best.no_lower w.den w.num (prices_feasible input budget below _ w.den w.num (supporting_priced input budget below lists _ w s)) in
          let h = rw (lower_cost x, lower_cost w.num) at lowest in
          omega (arith, ints, h, less);
      approached = λ num' den' some greater. (
        mixed (den * inner.num g * den' + 1) (record { den = den; num = x }) inner,
        mixtures _ den x p (den * inner.num g * den' + 1) (omega arith),
        mixed_less den (x g) (inner.num g) inner.den num' den' p.some kept.on_budget.fraction greater,
      );
    }
      where
        best : IsBestPrices (lower_program input budget below g) den x
        best = best_prices (lower_program input budget below g) den y x pair

        p : IsPriced input budget below (λ i. cond (eqb i g) (pos 1) (pos 0)) den x
        p = priced input budget below _ den x best.feasible

    -- ---- the upper bound

    upper_cost : (w : ℕ → ℕ) → (value_of_prices (upper_program input budget below g) w +ℤ pos (budget.prices g * w g)) ≡ pos (spending input.goods budget.prices w)
    upper_cost w =
        let rest = total_at input.goods g (λ i. pos (budget.prices i * w i)) g_in in
        ap (λ v. value_of_prices (upper_program input budget below g) w +ℤ v) (sym rest)
        ∙ sym (total-add input.goods (λ i. cond (eqb i g) (pos 0) (pos (budget.prices i)) *ℤ pos (w i)) (λ i. cond (eqb i g) (pos (budget.prices i * w i)) (pos 0)))
        ∙ total-same input.goods _ (λ i. pos (budget.prices i) *ℤ pos (w i)) (λ i h. both_parts (eqb i g) (budget.prices i) (w i))
        ∙ total_of_sum input.goods budget.prices w
      where
        both_parts : (b : Bool) (p n : ℕ) → (cond b (pos 0) (pos p) *ℤ pos n) +ℤ cond b (pos (p * n)) (pos 0) ≡ pos p *ℤ pos n
        both_parts true p n = omega (arith, ints)
        both_parts false p n = omega (arith, ints)

    -- a cost without good g that is at most another's leaves at least as much for it
    more_for_it : (c c' : ℤ) (p u v m d d' : ℕ) → (c +ℤ pos (p * u)) ≡ pos (d * m) → (c' +ℤ pos (p * v)) ≡ pos (d' * m)
        → (c *ℤ pos d') ≤ℤ (c' *ℤ pos d) → p * (v * d) ≤ p * (u * d')
    more_for_it c c' p u v m d d' e e' h =
        let a = plus_times c (pos (p * u)) (pos d') in
        let b = plus_times c' (pos (p * v)) (pos d) in
        let a' : (c +ℤ pos (p * u)) *ℤ pos d' ≡ pos (d * m * d') = ap (λ z. z *ℤ pos d') e in
        let b' : (c' +ℤ pos (p * v)) *ℤ pos d ≡ pos (d' * m * d) = ap (λ z. z *ℤ pos d) e' in
        let f : pos (p * u) *ℤ pos d' ≡ pos (p * u * d') = refl in
        let f' : pos (p * v) *ℤ pos d ≡ pos (p * v * d) = refl in
        omega (arith, ints, a, b, a', b', f, f', h)

    pub upper_is_supremum : 0 < budget.prices g → IsEqualPair (upper_program input budget below g) den y x → IsSupremum input budget g (x g) den
    upper_is_supremum some_price pair = record {
      fraction = p.some;
      none_more = λ w s more.
          let lowest = best.no_lower w.den w.num (prices_feasible input budget below _ w.den w.num (supporting_priced input budget below lists _ w s)) in
          let e = upper_cost x ∙ ap pos p.spent in
          let e' = upper_cost w.num ∙ ap pos s.on_budget.spent in
          let h = more_for_it _ _ (budget.prices g) (x g) (w.num g) budget.expenditure den w.den e e' lowest in
          let l : w.num g * den ≤ x g * w.den = le_of_mul-le-mul_left {k = budget.prices g} h some_price in
          omega (arith, l, more);
      approached = λ num' den' some smaller. (
        mixed (num' * den + 2) (record { den = den; num = x }) inner,
        mixtures _ den x p (num' * den + 2) (omega arith),
        mixed_more den (x g) (inner.num g) inner.den num' den' p.some kept.on_budget.fraction smaller,
      );
    }
      where
        best : IsBestPrices (upper_program input budget below g) den x
        best = best_prices (upper_program input budget below g) den y x pair

        p : IsPriced input budget below (λ i. cond (eqb i g) (pos 0) (pos (budget.prices i))) den x
        p = priced input budget below _ den x best.feasible
