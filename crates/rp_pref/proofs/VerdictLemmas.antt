-- The alternative: no two observations violate the axiom and the counts respect the preference, or the cycle of the
-- first two that do is a violation.
use Rattle.std.proofs.Common.{◌≡◌, ◌<◌, ◌+◌, ◌++◌, ◌∷◌, [], ℕ, List, length, inl, inr, sym, subst, arith, slice_index, ◌∙◌}
use Rattle.std.proofs.lemmas.Bool.{cases_eq}
use Rattle.std.proofs.lemmas.List.{get_or_append_left, get_or_push, length_push}
use Rattle.rp_evidence.specs.Count.{AreCounts}
use Rattle.rp_evidence.specs.First.{NoneRelated}
use Rattle.rp_evidence.specs.Garp.{HasNoViolation, IsViolation, ProvesOfPreference}
use Rattle.rp_evidence.specs.Walk.{IsShortestWalk}
use Rattle.rp_evidence.specs.declared.garp.Garp.TheVariants.{Ranks, Cycle}
use Rattle.rp_evidence.proofs.Counts.{counts_respect_preference}
use Rattle.rp_evidence.proofs.Violations.{has_reach_and_strict, reach_and_strict}
use Rattle.rp_evidence.proofs.Walks.{reach_ends_below, reach_starts_below}
use Rattle.rp_pref.specs.Closure.{AreCounted, IsClosureOf, Reached}
use Rattle.rp_pref.specs.Violation.{Violate}
use Rattle.rp_pref.proofs.ClosureLemmas.{count_by_closure}

-- one more entry at the end of a list
module _ (R : ℕ → ℕ → Type 0) (xs : List ℕ) (s y : ℕ) (each : length xs ≡ s) (all : (t : ℕ) → t < s → R t (slice_index xs t)) (last : R s y) where
  pub one_more_entry : (ys : List ℕ) → ys ≡ xs ++ y ∷ [] → (length ys ≡ s + 1) × ((t : ℕ) → t < s + 1 → R t (slice_index ys t))
  one_more_entry ys e = rw e (
    omega (arith, length_push xs y),
    λ t l. elim (cases_eq t s) [
      | inl k ↦ subst (λ x. R x (slice_index (xs ++ y ∷ []) x)) (sym k) (subst (λ x. R s x) (sym (get_or_push xs y 0 s each)) last)
      | inr k ↦ subst (λ x. R t x) (sym (get_or_append_left xs (y ∷ []) 0 t (omega arith))) (all t (omega arith))
    ],
  )

-- what a closure counts are the counts
pub counts_of : (reached : Reached) (n : ℕ) (step : ℕ → ℕ → Type 0) (counts : List ℕ) → IsClosureOf reached n step → AreCounted reached counts → AreCounts n step counts
counts_of reached n step counts closed are = record {
  one_each = are.one_each ∙ closed.size;
  each = λ s l. count_by_closure reached n step s (slice_index counts s) closed l (are.each s (omega (arith, closed.size)));
}

module _ (n : ℕ) (weak strict : ℕ → ℕ → Type 0) (is_weak : (s t : ℕ) → s < n → t < n → strict s t → weak s t) where
  none_without_violate : NoneRelated n (Violate n weak strict) → HasNoViolation n weak strict
  none_without_violate none walk v =
      let r = has_reach_and_strict n weak strict walk v in
      none r.0 r.1 (reach_starts_below n weak r.0 r.1 r.2) (reach_ends_below n weak r.0 r.1 r.2) (r.2, r.3)

  pub ranks_prove : (ranks : List ℕ) → AreCounts n weak ranks → NoneRelated n (Violate n weak strict) → ProvesOfPreference n weak strict (Ranks ranks)
  ranks_prove ranks are none =
      (counts_respect_preference n weak strict is_weak ranks are (none_without_violate none), none_without_violate none)

  pub cycle_proves : (s t : ℕ) (walk cycle : List ℕ) → s < n → t < n → strict t s → IsShortestWalk n weak s t walk → cycle ≡ walk ++ s ∷ [] → ProvesOfPreference n weak strict (Cycle cycle)
  cycle_proves s t walk cycle s_in t_in step shortest is =
      subst (λ w. IsViolation n weak strict w) (sym is) (reach_and_strict n weak strict s t walk shortest.leads (is_weak t s t_in s_in step) step)
