-- Counts along a step: they never rise, and fall where no violation exists.
use Rattle.std.proofs.Common.{◌≡◌, ◌<◌, ◌≤◌, ◌⊎◌, inl, inr, ℕ, List, [], ◌∷◌, ◌++◌, refl, sym, subst, slice_index}
use Rattle.rp_evidence.specs.Count.{AreCounts, IsCount}
use Rattle.rp_evidence.specs.Garp.{HasNoViolation}
use Rattle.rp_evidence.specs.Ranks.{RespectPreference, OrderSteps}
use Rattle.rp_evidence.specs.Walk.{IsClosedWalk, Reaches}
use Rattle.rp_evidence.proofs.CountLists.{number_grows, number_grows_past, number_is_one}
use Rattle.rp_evidence.proofs.Violations.{reach_and_strict}
use Rattle.rp_evidence.proofs.Walks.{reach_by_step, reach_on}

pub count_is_one : (n : ℕ) (step : ℕ → ℕ → Type 0) (s j k : ℕ) → IsCount n step s j → IsCount n step s k → j ≡ k
count_is_one n step s j k = number_is_one n (λ t. (t ≡ s) ⊎ Reaches n step s t) j k

module _ (n : ℕ) (step : ℕ → ℕ → Type 0) (s t : ℕ) (s_below : s < n) (t_below : t < n) (steps : step s t) where
  above : (u : ℕ) → u < n → (u ≡ t) ⊎ Reaches n step t u → (u ≡ s) ⊎ Reaches n step s u
  above u l (inl e) = inr (subst (λ z. Reaches n step s z) (sym e) (reach_by_step n step s t s_below t_below steps))
  above u l (inr r) = inr (reach_on n step s t u (reach_by_step n step s t s_below t_below steps) r)

  pub count_never_rises : (j k : ℕ) → IsCount n step s j → IsCount n step t k → k ≤ j
  count_never_rises j k a b =
      number_grows n (λ u. (u ≡ t) ⊎ Reaches n step t u) (λ u. (u ≡ s) ⊎ Reaches n step s u) above k j b a

  pub count_falls : (j k : ℕ) → ¬ ((s ≡ t) ⊎ Reaches n step t s) → IsCount n step s j → IsCount n step t k → k < j
  count_falls j k apart a b =
      number_grows_past n (λ u. (u ≡ t) ⊎ Reaches n step t u) (λ u. (u ≡ s) ⊎ Reaches n step s u) above s k j s_below (inl refl) apart b a

module _ (n : ℕ) (weak strict : ℕ → ℕ → Type 0) (is_weak : (s t : ℕ) → s < n → t < n → strict s t → weak s t) where
  -- no walk leads back along a strict step
  pub no_way_back : HasNoViolation n weak strict → (s t : ℕ) → s < n → t < n → strict s t → ¬ ((s ≡ t) ⊎ Reaches n weak t s)
  no_way_back sound s t a b h (inl e) = sound ((t ∷ []) ++ t ∷ []) (reach_and_strict n weak strict t s (t ∷ []) (refl, (b, sym e)) (is_weak s t a b h) h)
  no_way_back sound s t a b h (inr r) = sound (r.0 ++ t ∷ []) (reach_and_strict n weak strict t s r.0 r.1 (is_weak s t a b h) h)

  pub counts_respect_preference : (counts : List ℕ) → AreCounts n weak counts → HasNoViolation n weak strict → RespectPreference n weak strict counts
  counts_respect_preference counts are sound = record {
    one_each = are.one_each;
    weak_never_rises = λ s t a b h. count_never_rises n weak s t a b h (slice_index counts s) (slice_index counts t) (are.each s a) (are.each t b);
    strict_falls = λ s t a b h. count_falls n weak s t a b (is_weak s t a b h) (slice_index counts s) (slice_index counts t) (no_way_back sound s t a b h) (are.each s a) (are.each t b);
  }

pub counts_order_steps : (n : ℕ) (step : ℕ → ℕ → Type 0) (counts : List ℕ) → AreCounts n step counts → ((walk : List ℕ) → ¬ IsClosedWalk n step walk) → OrderSteps n step counts
counts_order_steps n step counts are none =
    let r = counts_respect_preference n step step (λ s t a b h. h) counts are (λ walk v. none walk v.0) in
    record { one_each = r.one_each; step_falls = r.strict_falls }
