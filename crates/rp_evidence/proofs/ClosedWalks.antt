-- Whether a closed walk exists, for steps that are decided: the observations are let in one by one as places to pass through
-- (Warshall 1962).
use Rattle.std.proofs.Common.{◌≡◌, ◌<◌, ◌≤◌, ◌⊎◌, inl, inr, ℕ, zero, suc, List, [], ◌∷◌, sym, subst, arith}
use Rattle.std.proofs.lemmas.Bool.{cases_eq}
use Rattle.rp_evidence.specs.Walk.{LeadsTo, Reaches, IsClosedWalk}
use Rattle.rp_evidence.proofs.Walks.{reach_by_step, reach_on, rest_of_reach, reach_starts_below}

module _ (n : ℕ) (step : ℕ → ℕ → Type 0) (decided : (s t : ℕ) → step s t ⊎ (¬ step s t)) where
  -- a walk from s to t that passes through observations below k alone
  abbrev Via : ℕ → ℕ → ℕ → Type 0
  Via zero s t = step s t
  Via (suc k) s t = Via k s t ⊎ (Via k s k × Via k k t)

  via_decided : (k s t : ℕ) → Via k s t ⊎ (¬ Via k s t)
  via_decided zero s t = decided s t
  via_decided (suc k) s t = go (via_decided k s t) (via_decided k s k) (via_decided k k t)
    where
      go : Via k s t ⊎ (¬ Via k s t) → Via k s k ⊎ (¬ Via k s k) → Via k k t ⊎ (¬ Via k k t) → Via (suc k) s t ⊎ (¬ Via (suc k) s t)
      go (inl a) b d = inl (inl a)
      go (inr a) (inl b) (inl d) = inl (inr (b, d))
      go (inr a) (inl b) (inr d) = inr (λ h. elim h [ inl x ↦ a x | inr y ↦ d y.1 ])
      go (inr a) (inr b) d = inr (λ h. elim h [ inl x ↦ a x | inr y ↦ b y.0 ])

  via_step : (k s t : ℕ) → step s t → Via k s t
  via_step zero s t h = h
  via_step (suc k) s t h = inl (via_step k s t h)

  via_reaches : (k s t : ℕ) → k ≤ n → s < n → t < n → Via k s t → Reaches n step s t
  via_reaches zero s t l a b h = reach_by_step n step s t a b h
  via_reaches (suc k) s t l a b (inl h) = via_reaches k s t (omega arith) a b h
  via_reaches (suc k) s t l a b (inr h) =
      reach_on n step s k t (via_reaches k s k (omega arith) a (omega arith) h.0) (via_reaches k k t (omega arith) (omega arith) b h.1)

  ends_there : (k s : ℕ) → Via (suc k) s k → Via k s k
  ends_there k s (inl h) = h
  ends_there k s (inr h) = h.0

  starts_there : (k t : ℕ) → Via (suc k) k t → Via k k t
  starts_there k t (inl h) = h
  starts_there k t (inr h) = h.1

  via_joins : (k x s t : ℕ) → x < k → Via k s x → Via k x t → Via k s t
  via_joins zero x s t l p q = absurd (omega arith)
  via_joins (suc k) x s t l p q = go (λ s t x_in. via_joins k x s t x_in) (cases_eq x k) p q
    where
      go : ((s t : ℕ) → x < k → Via k s x → Via k x t → Via k s t) → (x ≡ k) ⊎ (¬ (x ≡ k)) → Via (suc k) s x → Via (suc k) x t → Via (suc k) s t
      go join (inl e) p q = inr (ends_there k s (subst (λ y. Via (suc k) s y) e p), starts_there k t (subst (λ y. Via (suc k) y t) e q))
      go join (inr d) (inl p) (inl q) = inl (join s t (omega arith) p q)
      go join (inr d) (inl p) (inr q) = inr (join s k (omega arith) p q.0, q.1)
      go join (inr d) (inr p) (inl q) = inr (p.0, join k t (omega arith) p.1 q)
      go join (inr d) (inr p) (inr q) = inr (p.0, q.1)

  via_walk : (s t x : ℕ) (w : List ℕ) → LeadsTo n step s t (x ∷ w) → Via n s t
  via_walk s t x [] h = subst (λ y. Via n s y) h.2.1 (via_step n s x h.1)
  via_walk s t x (y ∷ w) h = via_joins n x s t h.2.0 (via_step n s x h.1) (via_walk x t y w h.2)

  -- the first k observations: one of them returns to itself, or none does
  closed_decided : (k : ℕ) → k ≤ n → ((s : ℕ) × (s < k) × Via n s s) ⊎ ((s : ℕ) → s < k → ¬ Via n s s)
  closed_decided zero l = inr (λ s s_in. absurd (omega arith))
  closed_decided (suc k) l = go (closed_decided k (omega arith)) (via_decided n k k)
    where
      go : ((s : ℕ) × (s < k) × Via n s s) ⊎ ((s : ℕ) → s < k → ¬ Via n s s) → Via n k k ⊎ (¬ Via n k k)
          → ((s : ℕ) × (s < suc k) × Via n s s) ⊎ ((s : ℕ) → s < suc k → ¬ Via n s s)
      go (inl r) b = inl (r.0, omega (arith, r.1), r.2)
      go (inr a) (inl h) = inl (k, omega arith, h)
      go (inr a) (inr h) = inr (λ s s_in. elim (cases_eq s k) [ inl e ↦ subst (λ y. ¬ Via n y y) (sym e) h | inr d ↦ a s (omega arith) ])

  closed_is_walk : (s : ℕ) → Reaches n step s s → (walk : List ℕ) × IsClosedWalk n step walk
  closed_is_walk s r = (r.0, (s, r.1, r.2))

  -- a closed walk, or none
  pub closed_walk_decided : ((walk : List ℕ) × IsClosedWalk n step walk) ⊎ ((walk : List ℕ) → ¬ IsClosedWalk n step walk)
  closed_walk_decided = elim (closed_decided n (omega arith)) [
    | inl r ↦ inl (closed_is_walk r.0 (via_reaches n r.0 r.0 (omega arith) r.1 r.1 r.2))
    | inr none ↦ inr (λ walk h. let k = rest_of_reach n step h.0 h.0 (walk, h.1, h.2) in none h.0 (reach_starts_below n step h.0 h.0 (walk, h.1, h.2)) (via_walk h.0 h.0 k.0 k.1 k.2))
  ]
