-- Supporting demand, tried at a small table: two consistent observations, and a new budget at the prices 1 and 1.
use Rattle.std.proofs.Common.{◌<◌, ◌≤◌, ◌*◌, ℕ, zero, suc, List, [], ◌∷◌, inl, refl, arith, slice_index, slice_index_or}
use Rattle.rp_table.specs.Sums.{sum_below}
use Rattle.rp_evidence.specs.Demand.{BudgetInput, FractionBundle, IsBelow, IsStrictlyBelow, IsSupportingDemand, enlarged}
use Rattle.rp_evidence.specs.Garp.{IsViolationAt}
use Rattle.rp_evidence.specs.Input.{TableInput}
use Rattle.rp_evidence.specs.Preference.{IsWeak, IsStrict}
use Rattle.rp_evidence.proofs.Violations.{no_violation_under_ranks}

abbrev rows : List (List ℕ) → ℕ → ℕ → ℕ
rows lists s g = slice_index (slice_index_or lists s []) g

abbrev consistent : TableInput
consistent = record {
  n = 2;
  goods = 2;
  price = rows ((1 ∷ 2 ∷ []) ∷ (2 ∷ 1 ∷ []) ∷ []);
  quantity = rows ((2 ∷ 1 ∷ []) ∷ (1 ∷ 2 ∷ []) ∷ []);
  cost = λ s t. sum_below 2 (λ g. rows ((1 ∷ 2 ∷ []) ∷ (2 ∷ 1 ∷ []) ∷ []) s g * rows ((2 ∷ 1 ∷ []) ∷ (1 ∷ 2 ∷ []) ∷ []) t g);
  levels = [];
  sums = λ s t s_in t_in. refl;
}

abbrev budget_of : ℕ → BudgetInput
budget_of m = record { prices = slice_index (1 ∷ 1 ∷ []); expenditure = m }

abbrev whole : ℕ → ℕ → FractionBundle
whole x y = record { den = 1; num = slice_index (x ∷ y ∷ []) }

abbrev wide : ℕ → ℕ → ℕ
wide = enlarged consistent (budget_of 4) (whole 3 1)

-- 3 and 1 are a supporting demand at an expenditure of 4
inner_supports : IsSupportingDemand consistent (budget_of 4) (whole 3 1)
inner_supports = record {
  on_budget = record { fraction = omega arith; spent = refl };
  meets = no_violation_under_ranks 3 (IsWeak wide) (IsStrict wide) (1 ∷ 1 ∷ 2 ∷ [])
      (record { one_each = refl; weak_never_rises = weak; strict_falls = strict });
}
  where
    weak : (s t : ℕ) → s < 3 → t < 3 → IsWeak wide s t → slice_index (1 ∷ 1 ∷ 2 ∷ []) t ≤ slice_index (1 ∷ 1 ∷ 2 ∷ []) s
    weak zero zero a b h = omega arith
    weak zero (suc zero) a b h = omega arith
    weak zero (suc (suc zero)) a b h = absurd (omega arith)
    weak (suc zero) zero a b h = omega arith
    weak (suc zero) (suc zero) a b h = omega arith
    weak (suc zero) (suc (suc zero)) a b h = absurd (omega arith)
    weak (suc (suc zero)) zero a b h = omega arith
    weak (suc (suc zero)) (suc zero) a b h = omega arith
    weak (suc (suc zero)) (suc (suc zero)) a b h = omega arith
    weak s (suc (suc (suc t))) a b h = absurd (omega arith)
    weak (suc (suc (suc s))) t a b h = absurd (omega arith)

    strict : (s t : ℕ) → s < 3 → t < 3 → IsStrict wide s t → slice_index (1 ∷ 1 ∷ 2 ∷ []) t < slice_index (1 ∷ 1 ∷ 2 ∷ []) s
    strict zero zero a b h = absurd (omega arith)
    strict zero (suc zero) a b h = absurd (omega arith)
    strict zero (suc (suc zero)) a b h = absurd (omega arith)
    strict (suc zero) zero a b h = absurd (omega arith)
    strict (suc zero) (suc zero) a b h = absurd (omega arith)
    strict (suc zero) (suc (suc zero)) a b h = absurd (omega arith)
    strict (suc (suc zero)) zero a b h = omega arith
    strict (suc (suc zero)) (suc zero) a b h = omega arith
    strict (suc (suc zero)) (suc (suc zero)) a b h = absurd (omega arith)
    strict s (suc (suc (suc t))) a b h = absurd (omega arith)
    strict (suc (suc (suc s))) t a b h = absurd (omega arith)

-- 0 and 4 are none: the new budget could buy the second bundle for less, and 0 and 4 cost no more than was spent there
extreme_violates : IsViolationAt 3 (enlarged consistent (budget_of 4) (whole 0 4)) 1 1 (2 ∷ 1 ∷ 2 ∷ [])
extreme_violates = ((2, (refl, (omega arith, omega arith, (omega arith, omega arith, (omega arith, refl)))), omega arith), inl (omega arith))

extreme_supports_not : ¬ IsSupportingDemand consistent (budget_of 4) (whole 0 4)
extreme_supports_not h = h.meets (2 ∷ 1 ∷ 2 ∷ []) extreme_violates

-- at 4 both observations are strictly below, at 3 they are below
strictly_at_four : IsStrictlyBelow consistent (budget_of 4) 1
strictly_at_four = record { from = 1; walk = 1 ∷ []; bought = omega arith; leads = (refl, (omega arith, refl)); strict = inl (omega arith) }

below_at_three : IsBelow consistent (budget_of 3) 1
below_at_three = record { from = 1; walk = 1 ∷ []; bought = omega arith; leads = (refl, (omega arith, refl)) }
