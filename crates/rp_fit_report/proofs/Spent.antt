-- What steps cost that are removed, beside all that was spent.
use Rattle.std.proofs.Common.{◌<◌, ◌≤◌, ◌+◌, ◌-◌, ◌*◌, ◌^◌, ℕ, zero, suc, Bool, true, false, Ok, subst, arith, if◌then◌else◌}
use Rattle.std.proofs.Math.Nat.{mul-le-mul_left}
use Rattle.rp_check_levels.proofs.Sound.{steps_prove}
use Rattle.rp_check_levels.specs.StepsFailure.{StepsFail}
use Rattle.rp_fit.specs.Steps.{all_spent, step_cost}
use Rattle.rp_fit.specs.StepsEvidence.{is_taken}
use Rattle.rp_fit.specs.declared.steps.StepsPart.{StepsPart}
use Rattle.rp_table.specs.Sums.{sum_below}

one_more : (k sum added spent : ℕ) → sum ≤ k * spent → added ≤ spent → sum + added ≤ suc k * spent
one_more k sum added spent so_far small = omega (arith, so_far, small)

row_more : (n sum added rest spent : ℕ) → sum ≤ n * rest → added ≤ n * spent → sum + added ≤ n * (rest + spent)
row_more n sum added rest spent so_far small = omega (arith, so_far, small)

along : (there : Bool) (spent cost : ℕ) → (if there then (spent - cost) else 0) ≤ spent
along true spent cost = omega arith
along false spent cost = omega arith

module _ (c : ℕ → ℕ → ℕ) (taken : ℕ → ℕ → Bool) where
  from : (s k : ℕ) → sum_below k (λ t. if taken s t then step_cost c s t else 0) ≤ k * c s s
  from s zero = omega arith
  from s (suc k) = one_more k (sum_below k (λ t. if taken s t then step_cost c s t else 0)) (if taken s k then step_cost c s k else 0) (c s s) (from s k) (along (taken s k) (c s s) (c s k))

  -- the steps cost at most as many times what was spent as there are observations
  all : (n m : ℕ) → sum_below m (λ s. sum_below n (λ t. if taken s t then step_cost c s t else 0)) ≤ n * sum_below m (λ s. c s s)
  all n zero = omega arith
  all n (suc m) = row_more n (sum_below m (λ s. sum_below n (λ t. if taken s t then step_cost c s t else 0))) (sum_below n (λ t. if taken m t then step_cost c m t else 0))
      (sum_below m (λ s. c s s)) (c m m) (all n m) (from m n)

small : (n spent cost : ℕ) → cost ≤ n * spent → n ≤ 512 → spent ≤ 2 ^ 60 → cost < 2 ^ 127
small n spent cost most few within =
    let a : n * spent ≤ n * 2 ^ 60 = mul-le-mul_left n within in
    omega (arith, most, few, a)

pub cost_fits : (n : ℕ) (c : ℕ → ℕ → ℕ) (part : StepsPart) → StepsFail n c part (Ok tt) → n ≤ 512 → all_spent n c ≤ 2 ^ 60 → part.cost < 2 ^ 127
cost_fits n c part accepted few within =
    small n (all_spent n c) part.cost (subst (λ k. k ≤ n * all_spent n c) (steps_prove n c part (Ok tt) accepted).costs (all c (is_taken part.taken) n n)) few within
