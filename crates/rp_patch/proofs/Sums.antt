-- Laws of sums over the numbers below a bound.
use Rattle.std.proofs.Common.{◌≡◌, ℕ, ◌<◌, ◌==◌, if◌then◌else◌, arith, rules}
use Rattle.rp_table.specs.Sums.{sum_below}
use Rattle.rp_table.proofs.SumsBelow.{sum_at_least}

-- the times of a budget on which something was chosen
same_test : (j t : ℕ) → (if j == j then t else 0) ≡ t
same_test j t = search rules

pub some_times : (budget times : ℕ → ℕ) (n j i : ℕ) → i < n → budget i ≡ j → 0 < times i
    → 0 < sum_below n (λ k. if budget k == j then times k else 0)
some_times budget times n j i within is positive =
    let least = sum_at_least (λ k. if budget k == j then times k else 0) n i within in
    let here : (if budget i == j then times i else 0) ≡ times i = rw is (same_test j (times i)) in
    omega (arith, least, here, positive)
