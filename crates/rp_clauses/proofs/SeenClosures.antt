-- Rows of bits as the closure that callers see.
use Rattle.std.proofs.Common.{◌≡◌, ◌<◌, ◌↔◌, ℕ, IsTrue, List, sym, ap, subst, ◌∙◌}
use Rattle.rp_evidence.specs.Walk.{Reaches}
use Rattle.rp_evidence.specs.Bits.{bit_in}
use Rattle.rp_evidence.specs.Reached.{IsClosureOf, Reached, reached_by, reaches_in}
use Rattle.rp_evidence.proofs.Tabulated.{reaches_in_by}
use Rattle.rp_clauses.specs.InnerBits.{has_bit}

pub is_closure : (n size : ℕ) (step : ℕ → ℕ → Type 0) (rows : List (List ℕ)) → size ≡ n
    → ((s t : ℕ) → s < n → t < n → IsTrue (has_bit rows s t) ↔ Reaches n step s t) → IsClosureOf (reached_by size (has_bit rows)) n step
is_closure n size step rows same exact = subst (λ m. IsClosureOf (reached_by m (has_bit rows)) n step) (sym same) (record {
  size = λ i. n;
  exact = λ s t a b. subst (λ x. IsTrue x ↔ Reaches n step s t) (sym (reaches_in_by n (has_bit rows) s t a b)) (exact s t a b);
})

-- a bit, as it is seen
pub seen_bit : (reached : Reached) (n : ℕ) (rows : List (List ℕ)) → reached_by n (has_bit rows) ≡ reached → (s t : ℕ) → s < reached.n → t < reached.n
    → has_bit rows s t ≡ reaches_in reached s t
seen_bit reached n rows is s t a b =
    let size : n ≡ reached.n = ap (λ (r : Reached). r.n) is in
    sym (reaches_in_by n (has_bit rows) s t (subst (λ m. s < m) (sym size) a) (subst (λ m. t < m) (sym size) b)) ∙ ap (λ (r : Reached). reaches_in r s t) is

-- what the marked observations reach, as it is seen
pub seen_from : (reached : Reached) (n : ℕ) (rows : List (List ℕ)) → reached_by n (has_bit rows) ≡ reached → (P : ℕ → Type 0) (row : List ℕ)
    → ((t : ℕ) → IsTrue (bit_in row t) ↔ ((s : ℕ) × (s < n) × P s × IsTrue (has_bit rows s t)))
    → (t : ℕ) → t < reached.n → IsTrue (bit_in row t) ↔ ((s : ℕ) × (s < reached.n) × P s × IsTrue (reaches_in reached s t))
seen_from reached n rows is P row exact t b =
    let size : n ≡ reached.n = ap (λ (r : Reached). r.n) is in (
      (λ h.
          let r = (exact t).0 h in
          let a = subst (λ m. r.0 < m) size r.1 in
          (r.0, a, r.2, subst (λ x. IsTrue x) (seen_bit reached n rows is r.0 t a b) r.3)),
      (λ h. (exact t).1 (h.0, subst (λ m. h.0 < m) (sym size) h.1, h.2, subst (λ x. IsTrue x) (sym (seen_bit reached n rows is h.0 t h.1 b)) h.3)),
    )
