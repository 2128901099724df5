-- One number more.
use Rattle.std.proofs.Common.{◌≡◌, ◌+◌, ℕ, Bool, true, false, min, refl, ap, ◌∙◌, arith, add-one}
use Rattle.rp_offered.specs.Offered.{count_below, least_below}

-- one that holds, and one that does not
pub one_more : (f : ℕ → Bool) (n count : ℕ) → count ≡ count_below n f → f n ≡ true → count + 1 ≡ count_below (n + 1) f
one_more f n count is here = ap (λ (k : ℕ). k + 1) is ∙ rw (add-one n, here) refl

pub none_more : (f : ℕ → Bool) (n count : ℕ) → count ≡ count_below n f → f n ≡ false → count ≡ count_below (n + 1) f
none_more f n count is here = is ∙ rw (add-one n, here) (omega arith)

-- the least so far
pub least_more : (f : ℕ → ℕ) (n least here next : ℕ) → least ≡ least_below n f → here ≡ f n → next ≡ min least here → next ≡ least_below (n + 1) f
least_more f n least here next before is last = rw (add-one, last, before, is) refl
