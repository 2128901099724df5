-- The first observation of least cost, one after another.
use Rattle.std.proofs.Common.{◌≡◌, ◌<◌, ◌≤◌, ◌+◌, inl, inr, ℕ, sym, subst, arith}
use Rattle.std.proofs.lemmas.Bool.{cases_eq, cases_lt}
use Rattle.rp_evidence.specs.Demand.{spending}
use Rattle.rp_evidence.specs.Input.{TableInput}
use Rattle.rp_evidence.specs.Welfare.{EqualsOrReaches}
use Rattle.rp_welfare.specs.InnerCheapest.{IsBefore, IsCheapestBelow}
use Rattle.rp_welfare.specs.WelfareVerdict.{IsFirstCheapest}
use Rattle.rp_evidence.proofs.EqualOrReached.{equals}

module _ (input : TableInput) (prices : ℕ → ℕ) (t : ℕ) where
  abbrev own_cost : ℕ → ℕ
  own_cost r = spending input.goods prices (input.quantity r)

  pub starts_with_own : (s cost : ℕ) → t < input.n → s ≡ t → cost ≡ own_cost t → IsCheapestBelow input prices t 0 s cost
  starts_with_own s cost l e c = record {
    observed = omega (arith, l, e);
    leads = equals input s t (omega (arith, l, e)) e;
    costs = subst (λ z. spending input.goods prices (input.quantity z) ≡ cost) (sym e) (sym c);
    least = λ r b k. absurd (omega (arith, b));
    first = λ r b f k. absurd (omega (arith, b));
  }

  module _ (end s cost : ℕ) (so_far : IsCheapestBelow input prices t end s cost) where
    pub cheapest_skips : ¬ EqualsOrReaches input end t → IsCheapestBelow input prices t (end + 1) s cost
    cheapest_skips none = record {
      observed = so_far.observed;
      leads = so_far.leads;
      costs = so_far.costs;
      least = λ r b k. elim (cases_eq r end) [
        | inl e ↦ absurd (none (subst (λ z. EqualsOrReaches input z t) e k))
        | inr d ↦ so_far.least r (omega (arith, b)) k
      ];
      first = λ r b f k. elim (cases_eq r end) [
        | inl e ↦ absurd (none (subst (λ z. EqualsOrReaches input z t) e k))
        | inr d ↦ so_far.first r (omega (arith, b)) f k
      ];
    }

    pub cheapest_stays : (cost' : ℕ) → cost' ≡ own_cost end → ¬ IsBefore cost' end cost s → IsCheapestBelow input prices t (end + 1) s cost
    cheapest_stays cost' c not_before = record {
      observed = so_far.observed;
      leads = so_far.leads;
      costs = so_far.costs;
      least = λ r b k. elim (cases_eq r end) [
        | inl e ↦ subst (λ z. cost ≤ spending input.goods prices (input.quantity z)) (sym e) (subst (λ z. cost ≤ z) c at_least)
        | inr d ↦ so_far.least r (omega (arith, b)) k
      ];
      first = λ r b f k. elim (cases_eq r end) [
        | inl e ↦ subst (λ z. cost < spending input.goods prices (input.quantity z)) (sym e) (subst (λ z. cost < z) c (more (omega (arith, e, f))))
        | inr d ↦ so_far.first r (omega (arith, b)) f k
      ];
    }
      where
        at_least : cost ≤ cost'
        at_least = elim (cases_lt cost' cost) [ inl l ↦ absurd (not_before (inl l)) | inr g ↦ g ]

        more : end < s → cost < cost'
        more l = elim (cases_eq cost' cost) [ inl e ↦ absurd (not_before (inr (e, l))) | inr d ↦ omega (arith, at_least, d) ]

    pub cheapest_changes : (s' cost' : ℕ) → end < input.n → EqualsOrReaches input end t → s' ≡ end → cost' ≡ own_cost end → IsBefore cost' s' cost s → IsCheapestBelow input prices t (end + 1) s' cost'
    cheapest_changes s' cost' l leads e c before = record {
      observed = omega (arith, l, e);
      leads = subst (λ z. EqualsOrReaches input z t) (sym e) leads;
      costs = subst (λ z. spending input.goods prices (input.quantity z) ≡ cost') (sym e) (sym c);
      least = λ r b k. elim (cases_eq r end) [
        | inl q ↦ subst (λ z. cost' ≤ spending input.goods prices (input.quantity z)) (sym q) (subst (λ z. cost' ≤ z) c (omega arith))
        | inr d ↦ (let h = so_far.least r (omega (arith, b)) k in at_most (spending input.goods prices (input.quantity r)) h)
      ];
      first = λ r b f k. elim before [
        | inl less ↦ (let h = so_far.least r (omega (arith, f, e)) k in omega (arith, less, h))
        | inr same ↦ (let h = so_far.first r (omega (arith, f, e)) (omega (arith, f, same.1)) k in omega (arith, same.0, h))
      ];
    }
      where
        at_most : (z : ℕ) → cost ≤ z → cost' ≤ z
        at_most z h = elim before [ inl less ↦ omega (arith, less, h) | inr same ↦ omega (arith, same.0, h) ]

  pub cheapest_of_all : (s cost : ℕ) → ((r : ℕ) → EqualsOrReaches input r t → r < input.n) → IsCheapestBelow input prices t input.n s cost → IsFirstCheapest input prices t s cost
  cheapest_of_all s cost starts h = record {
    upper = record {
      observed = h.observed;
      leads = h.leads;
      costs = h.costs;
      least = λ r k. h.least r (starts r k) k;
    };
    first = λ r f k. h.first r (starts r k) f k;
  }
