-- In how many ways a patch can be taken of each budget.
use Rattle.std.proofs.Common.{◌≡◌, ◌<◌, ◌≤◌, ◌+◌, ◌-◌, ◌*◌, ◌==◌, ℕ, zero, suc, Bool, true, false, length, refl, subst, arith, if◌then◌else◌}
use Rattle.rp_table.specs.Sums.{sum_below}
use Rattle.rp_patch.specs.Patches.{IsPatchList, PatchList, budget_at, units_at}
use Rattle.rp_patch.specs.Types.{combinations, patches_on}

none_of_none : (on : ℕ → Bool) (units : ℕ → ℕ) (n : ℕ) → sum_below n (λ i. if on i then 1 else 0) ≡ 0 → sum_below n (λ i. if on i then units i else 0) ≡ 0
none_of_none on units zero none = refl
none_of_none on units (suc n) none = by (on n) none (none_of_none on units n)
  where
    by : (b : Bool) → sum_below n (λ i. if on i then 1 else 0) + (if b then 1 else 0) ≡ 0
        → (sum_below n (λ i. if on i then 1 else 0) ≡ 0 → sum_below n (λ i. if on i then units i else 0) ≡ 0)
        → sum_below n (λ i. if on i then units i else 0) + (if b then units n else 0) ≡ 0
    by true e rest = absurd (omega (arith, e))
    by false e rest = omega (arith, rest (omega (arith, e)))

-- every budget has a patch
pub some_patch : (p : PatchList) → IsPatchList p → (j : ℕ) → j < p.budgets → 1 ≤ patches_on p j
some_patch p is j below = by (patches_on p j) (none_of_none (λ i. budget_at p i == j) (units_at p) (length p.patches))
  where
    by : (k : ℕ) → (k ≡ 0 → sum_below (length p.patches) (λ i. if budget_at p i == j then units_at p i else 0) ≡ 0) → 1 ≤ k
    by zero none = absurd (omega (arith, none refl, is.filled j below, is.some_units))
    by (suc k) none = omega arith

grows : (a b : ℕ) → 1 ≤ b → a ≤ a * b
grows a zero l = absurd (omega (arith, l))
grows a (suc b) l = omega arith

-- with more budgets there are no fewer ways
pub no_fewer : (p : PatchList) → IsPatchList p → (j k : ℕ) → j + k ≤ p.budgets → combinations p j ≤ combinations p (j + k)
no_fewer p is j zero le =
    let same : j ≡ j + 0 = omega arith in
    subst (λ n. combinations p j ≤ combinations p n) same (omega arith)
no_fewer p is j (suc k) le =
    let before = no_fewer p is j k (omega (arith, le)) in
    let more = grows (combinations p (j + k)) (patches_on p (j + k)) (some_patch p is (j + k) (omega (arith, le))) in
    let next : suc (j + k) ≡ j + suc k = omega arith in
    subst (λ n. combinations p j ≤ combinations p n) next (omega (arith, before, more))

pub too_many_ways : (p : PatchList) → IsPatchList p → (j most : ℕ) → j ≤ p.budgets → most < combinations p j → most < combinations p p.budgets
too_many_ways p is j most le more =
    let rest : j + (p.budgets - j) ≡ p.budgets = omega (arith, le) in
    let grown = no_fewer p is j (p.budgets - j) (omega (arith, le)) in
    let all : combinations p j ≤ combinations p p.budgets = subst (λ n. combinations p j ≤ combinations p n) rest grown in
    omega (arith, all, more)
