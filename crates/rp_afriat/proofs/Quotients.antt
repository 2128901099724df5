-- The multipliers of the code: what a rounded-up quotient is, and one entry after another.
use Rattle.std.proofs.Common.{◌≡◌, ◌<◌, ◌+◌, ◌*◌, inl, inr, ℕ, List, length, ap, sym, subst, ◌∙◌, arith, set, length-set, slice_index}
use Rattle.std.proofs.lemmas.Bool.{cases_eq}
use Rattle.std.proofs.lemmas.Int.{ints}
use Rattle.std.proofs.lemmas.List.{get_or-set_other, get_or-set_same}
use Rattle.std.specs.Prelude.{ℤ, pos, ◌+ℤ◌, ◌-ℤ◌, ◌*ℤ◌, ◌≤ℤ◌}
use Rattle.rp_evidence.specs.StandardNumbers.{FitsMultiplier, IsMultiplierBy}
use Rattle.rp_evidence.proofs.AfriatStages.{IsNeeded}
use Rattle.rp_evidence.proofs.AfriatSums.{allowed_parts}
use Rattle.rp_afriat.specs.InnerFilling.{AreMultipliersSet, IsCeiling, utility_of}

filled : (x y : ℤ) (k a b e : ℕ) → b + e ≡ a → (y -ℤ x) ≤ℤ pos (k * e) → y ≤ℤ (x +ℤ (pos k *ℤ (pos a -ℤ pos b)))
filled x y k a b e s h =
    let p = allowed_parts x k a b in
    let q = ap (λ (z : ℕ). k * z) s in
    omega (arith, ints)

unfilled : (x y : ℤ) (k a b e : ℕ) → b + e ≡ a → y ≤ℤ (x +ℤ (pos k *ℤ (pos a -ℤ pos b))) → (y -ℤ x) ≤ℤ pos (k * e)
unfilled x y k a b e s h =
    let p = allowed_parts x k a b in
    let q = ap (λ (z : ℕ). k * z) s in
    omega (arith, ints)

-- the rounded-up quotient is the least multiplier that serves
pub rounded_is_needed : (cost : ℕ → ℕ → ℕ) (own : ℕ → ℕ) (u : ℕ → ℤ) (s t : ℕ) (difference : ℤ) (extra q : ℕ) → difference ≡ u t -ℤ u s → own s + extra ≡ cost s t → IsCeiling difference extra q → IsNeeded cost own u s t q
rounded_is_needed cost own u s t difference extra q g e is = record {
  enough = filled (u s) (u t) q (cost s t) (own s) extra e (subst (λ z. z ≤ℤ pos (q * extra)) g is.enough);
  least = λ j h. is.least j (subst (λ z. z ≤ℤ pos (j * extra)) (sym g) (unfilled (u s) (u t) j (cost s t) (own s) extra e h));
}

module _ (n : ℕ) (cost : ℕ → ℕ → ℕ) (own : ℕ → ℕ) (counts : List ℕ) (class : ℕ) (u : List ℤ) (before after : List ℕ) (s : ℕ) (so_far : AreMultipliersSet s n cost own counts class u before after) where
  pub multiplier_one_more : (k : ℕ) → s < length before → slice_index counts s ≡ class → IsMultiplierBy n cost own (slice_index counts) (utility_of u) s k → FitsMultiplier k → (next : List ℕ) → next ≡ set after s k → AreMultipliersSet (s + 1) n cost own counts class u before next
  multiplier_one_more k l e is fits next same = rw same (record {
    as_long = omega (arith, length-set after s k, so_far.as_long);
    set = λ t b f. elim (cases_eq t s) [
      | inl q ↦ subst (λ z. IsMultiplierBy n cost own (slice_index counts) (utility_of u) z (slice_index (set after s k) z) × FitsMultiplier (slice_index (set after s k) z)) (sym q)
          (subst (λ z. IsMultiplierBy n cost own (slice_index counts) (utility_of u) s z × FitsMultiplier z) (sym (get_or-set_same after s k 0 (omega (arith, so_far.as_long)))) (is, fits))
      | inr d ↦ subst (λ z. IsMultiplierBy n cost own (slice_index counts) (utility_of u) t z × FitsMultiplier z) (sym (get_or-set_other after s t k 0 d)) (so_far.set t (omega arith) f)
    ];
    kept = λ t b d. get_or-set_other after s t k 0 (λ q. d (subst (λ z. slice_index counts z ≡ class) (sym q) e)) ∙ so_far.kept t b d;
  })

  pub multiplier_no_more : ¬ (slice_index counts s ≡ class) → (next : List ℕ) → next ≡ after → AreMultipliersSet (s + 1) n cost own counts class u before next
  multiplier_no_more d next same = rw same (record {
    as_long = so_far.as_long;
    set = λ t l e. elim (cases_eq t s) [
      | inl k ↦ absurd (d (subst (λ z. slice_index counts z ≡ class) k e))
      | inr f ↦ so_far.set t (omega arith) e
    ];
    kept = so_far.kept;
  })
