-- Tables of truth values by rows.
use Rattle.std.proofs.Common.{◌<◌, ◌≤◌, ◌+◌, ◌*◌, ◌/◌, ◌%◌, ◌↔◌, ℕ, Bool, false, List, IsTrue, subst, arith, get_or}
use Rattle.std.proofs.lemmas.Nat.{div-mul-add, mod-mul-add, mul-add-lt}
use Rattle.rp_pref.specs.InnerSearch.{IsStepIn}

-- what holds of each place holds of each row and column
pub by_rows : (n : ℕ) (items : List Bool) (R : ℕ → ℕ → Type 0) (end : ℕ) → n * n ≤ end → ((k : ℕ) → k < end → IsTrue (get_or items k false) ↔ R (k / n) (k % n)) → (s t : ℕ) → s < n → t < n → IsStepIn items n s t ↔ R s t
by_rows n items R end all each s t a b =
    subst (λ x. IsStepIn items n s t ↔ R x t) (div-mul-add s n t b)
    (subst (λ y. IsStepIn items n s t ↔ R ((s * n + t) / n) y) (mod-mul-add s n t b) (each (s * n + t) (omega (arith, mul-add-lt s n t n a b))))
