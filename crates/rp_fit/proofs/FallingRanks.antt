-- Ranks that fall along each step leave no closed walk.
use Rattle.std.proofs.Common.{◌<◌, ℕ, List, [], ◌∷◌, sym, subst, arith, slice_index}
use Rattle.rp_evidence.specs.Walk.{IsClosedWalk, LeadsTo}

module _ (n : ℕ) (step : ℕ → ℕ → Type 0) (ranks : List ℕ) (falls : (s t : ℕ) → s < n → t < n → step s t → slice_index ranks t < slice_index ranks s) where
  falls_along : (s t x : ℕ) (w : List ℕ) → LeadsTo n step s t (x ∷ w) → slice_index ranks t < slice_index ranks s
  falls_along s t x [] h =
      subst (λ z. slice_index ranks z < slice_index ranks s) h.2.1 (falls s x h.0 h.2.0 h.1)
  falls_along s t x (y ∷ w) h =
      let a = falls s x h.0 h.2.0 h.1 in
      let b = falls_along x t y w h.2 in
      omega (arith, a, b)

  pub no_closed_walk_under_ranks : (walk : List ℕ) → ¬ IsClosedWalk n step walk
  no_closed_walk_under_ranks [] w = absurd w.1
  no_closed_walk_under_ranks (x ∷ []) w = absurd (omega (arith, w.2))
  no_closed_walk_under_ranks (x ∷ y ∷ rest) w =
      let l = subst (λ z. LeadsTo n step x z (y ∷ rest)) (sym w.1.0) w.1.1 in
      absurd (omega (arith, falls_along x x y rest l))
