-- Lists of those of the first observations of which something holds, one observation after another.
use Rattle.std.proofs.Common.{Bool, IsTrue, false, slice_index, slice_index_or, ◌↔◌, ◌≡◌, ◌<◌, ◌+◌, ◌++◌, ◌∷◌, [], ℕ, List, length, inl, inr, sym, subst, arith}
use Rattle.std.proofs.lemmas.Bool.{cases_eq}
use Rattle.std.proofs.lemmas.List.{get_or_append_left, get_or_push, length_push}

-- one more truth value
module _ (P : ℕ → Type 0) (xs : List Bool) (s : ℕ) (b : Bool) (one_each : length xs ≡ s) (each : (k : ℕ) → k < s → IsTrue (slice_index_or xs k false) ↔ P k) (last : IsTrue b ↔ P s) where
  pub mark_more : (ys : List Bool) → ys ≡ xs ++ b ∷ [] → (k : ℕ) → k < s + 1 → IsTrue (slice_index_or ys k false) ↔ P k
  mark_more ys e k l = rw e (elim (cases_eq k s) [
    | inl at ↦ subst (λ x. IsTrue (slice_index_or (xs ++ b ∷ []) x false) ↔ P x) (sym at) (subst (λ z. IsTrue z ↔ P s) (sym (get_or_push xs b false s one_each)) last)
    | inr not ↦ subst (λ z. IsTrue z ↔ P k) (sym (get_or_append_left xs (b ∷ []) false k (omega arith))) (each k (omega arith))
  ])

-- one more number
module _ (R : ℕ → ℕ → Type 0) (xs : List ℕ) (s y : ℕ) (one_each : length xs ≡ s) (each : (k : ℕ) → k < s → R k (slice_index xs k)) (last : R s y) where
  pub number_more : (ys : List ℕ) → ys ≡ xs ++ y ∷ [] → (k : ℕ) → k < s + 1 → R k (slice_index ys k)
  number_more ys e k l = rw e (elim (cases_eq k s) [
    | inl at ↦ subst (λ x. R x (slice_index (xs ++ y ∷ []) x)) (sym at) (subst (λ z. R s z) (sym (get_or_push xs y 0 s one_each)) last)
    | inr not ↦ subst (λ z. R k z) (sym (get_or_append_left xs (y ∷ []) 0 k (omega arith))) (each k (omega arith))
  ])

  pub length_more : (ys : List ℕ) → ys ≡ xs ++ y ∷ [] → length ys ≡ s + 1
  length_more ys e = rw e (omega (arith, length_push xs y))

-- one more entry of any type
module _ {X : Type 0} (R : ℕ → X → Type 0) (xs : List X) (s : ℕ) (y : X) (one_each : length xs ≡ s) (each : (k : ℕ) (d : X) → k < s → R k (slice_index_or xs k d)) (last : R s y) where
  pub entry_more : (ys : List X) → ys ≡ xs ++ y ∷ [] → (k : ℕ) (d : X) → k < s + 1 → R k (slice_index_or ys k d)
  entry_more ys e k d l = subst (λ (zs : List X). R k (slice_index_or zs k d)) (sym e) (elim (cases_eq k s) [
    | inl at ↦ subst (λ (x : ℕ). R x (slice_index_or (xs ++ y ∷ []) x d)) (sym at) (subst (λ (z : X). R s z) (sym (get_or_push xs y d s one_each)) last)
    | inr not ↦ subst (λ (z : X). R k z) (sym (get_or_append_left xs (y ∷ []) d k (omega arith))) (each k d (omega arith))
  ])
