-- A walk through observations below n is any walk (Warshall 1962): what the rounds find is what is reached. What k
-- rounds find is defined by recursion on k, as walks through observations below k alone, so that one round is its
-- definition. That it is every walk in the end needs only that such walks can be joined at observations below k
-- (`through_joined`), and one induction over the walk.
use Rattle.std.proofs.Common.{ℕ, zero, suc, ◌<◌, ◌≤◌, List, [], ◌∷◌, length, inl, inr, subst, arith}
use Rattle.std.proofs.lemmas.Bool.{cases_eq}
use Rattle.rp_evidence.specs.Walk.{LeadsTo, IsWalk, Reaches}
use Rattle.rp_evidence.proofs.Walks.{reach_by_step, reach_on}
use Rattle.rp_evidence.specs.Through.{ReachesThrough}

module _ (step : ℕ → ℕ → Type 0) where
  -- Two walks of which the first ends below k, where the second begins.
  pub through_joined : (k s u t : ℕ) → u < k → ReachesThrough k step s u → ReachesThrough k step u t → ReachesThrough k step s t
  through_joined zero s u t l a b = absurd (omega arith)
  through_joined (suc k) s u t l a b = elim (cases_eq u k) [
    | inl e ↦ at_end (subst (ReachesThrough (suc k) step s) e a) (subst (λ x. ReachesThrough (suc k) step x t) e b)
    | inr e ↦ below (through_joined k s u k (omega arith)) (through_joined k k u t (omega arith)) (through_joined k s u t (omega arith)) a b
  ]
    where
      at_end : ReachesThrough (suc k) step s k → ReachesThrough (suc k) step k t → ReachesThrough (suc k) step s t
      at_end (inl x) (inl y) = inr (x, y)
      at_end (inl x) (inr y) = inr (x, y.1)
      at_end (inr x) (inl y) = inr (x.0, y)
      at_end (inr x) (inr y) = inr (x.0, y.1)

      below : (ReachesThrough k step s u → ReachesThrough k step u k → ReachesThrough k step s k) → (ReachesThrough k step k u → ReachesThrough k step u t → ReachesThrough k step k t)
          → (ReachesThrough k step s u → ReachesThrough k step u t → ReachesThrough k step s t) → ReachesThrough (suc k) step s u → ReachesThrough (suc k) step u t → ReachesThrough (suc k) step s t
      below to from both (inl x) (inl y) = inl (both x y)
      below to from both (inl x) (inr y) = inr (to x y.0, y.1)
      below to from both (inr x) (inl y) = inr (x.0, from x.1 y)
      below to from both (inr x) (inr y) = inr (x.0, y.1)

  pub through_step : (k s t : ℕ) → step s t → ReachesThrough k step s t
  through_step zero s t h = h
  through_step (suc k) s t h = inl (through_step k s t h)

module _ (n : ℕ) (step : ℕ → ℕ → Type 0) where
  -- A walk with at least one step.
  pub through_from_leads : (s x t : ℕ) (rest : List ℕ) → step s x → LeadsTo n step x t rest → ReachesThrough n step s t
  through_from_leads s x t [] first h = subst (ReachesThrough n step s) h.1 (through_step step n s x first)
  through_from_leads s x t (y ∷ rest) first h =
      through_joined step n s x t h.0 (through_step step n s x first) (through_from_leads x y t rest h.1 h.2)

  pub through_from_reaches : (s t : ℕ) → Reaches n step s t → ReachesThrough n step s t
  through_from_reaches s t r = walked r.0 r.1 r.2
    where
      walked : (walk : List ℕ) → IsWalk n step s t walk → 1 < length walk → ReachesThrough n step s t
      walked [] h l = absurd h
      walked (x ∷ []) h l = absurd (omega arith)
      walked (x ∷ y ∷ rest) h l = subst (λ z. ReachesThrough n step z t) h.0 (through_from_leads x y t rest h.1.1 h.1.2)

  pub reaches_from_through : (k s t : ℕ) → k ≤ n → s < n → t < n → ReachesThrough k step s t → Reaches n step s t
  reaches_from_through zero s t le a b h = reach_by_step n step s t a b h
  reaches_from_through (suc k) s t le a b h = by_case (reaches_from_through k s t (omega arith) a b) (reaches_from_through k s k (omega arith) a (omega arith)) (reaches_from_through k k t (omega arith) (omega arith) b) h
    where
      by_case : (ReachesThrough k step s t → Reaches n step s t) → (ReachesThrough k step s k → Reaches n step s k) → (ReachesThrough k step k t → Reaches n step k t) → ReachesThrough (suc k) step s t → Reaches n step s t
      by_case both to from (inl x) = both x
      by_case both to from (inr x) = reach_on n step s k t (to x.0) (from x.1)

  -- What is led to is below n where each step leads to what is below n.
  pub through_ends_below : ((a b : ℕ) → a < n → step a b → b < n) → (k s t : ℕ) → k ≤ n → s < n → ReachesThrough k step s t → t < n
  through_ends_below ends zero s t le a h = ends s t a h
  through_ends_below ends (suc k) s t le a h = by_case (through_ends_below ends k s t (omega arith) a) (through_ends_below ends k k t (omega arith) (omega arith)) h
    where
      by_case : (ReachesThrough k step s t → t < n) → (ReachesThrough k step k t → t < n) → ReachesThrough (suc k) step s t → t < n
      by_case both from (inl x) = both x
      by_case both from (inr x) = from x.1
