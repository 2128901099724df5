-- Walks put together and taken apart.
use Rattle.std.proofs.Common.{◌<◌, ℕ, List, [], ◌∷◌, ◌++◌, length, ◌⊎◌, inl, inr, refl, sym, subst, arith}
use Rattle.rp_evidence.specs.Walk.{LeadsTo, IsWalk, Reaches, HasStepFrom}

module _ (n : ℕ) (step : ℕ → ℕ → Type 0) where
  pub starts_below : (s t : ℕ) (w : List ℕ) → LeadsTo n step s t w → s < n
  starts_below s t [] h = h.0
  starts_below s t (x ∷ w) h = h.0

  pub ends_below : (s t : ℕ) (w : List ℕ) → LeadsTo n step s t w → t < n
  ends_below s t [] h = subst (λ v. v < n) h.1 h.0
  ends_below s t (x ∷ w) h = ends_below x t w h.2

  -- one walk after another
  pub leads_on : (s t u : ℕ) (v w : List ℕ) → LeadsTo n step s t v → LeadsTo n step t u w → LeadsTo n step s u (v ++ w)
  leads_on s t u [] w h k = subst (λ x. LeadsTo n step x u w) (sym h.1) k
  leads_on s t u (x ∷ v) w h k = (h.0, h.1, leads_on x t u v w h.2 k)

  -- one step
  pub leads_by_step : (s t : ℕ) → s < n → t < n → step s t → LeadsTo n step s t (t ∷ [])
  leads_by_step s t a b h = (a, h, (b, refl))

  -- one step more
  pub leads_more : (s t u : ℕ) (w : List ℕ) → LeadsTo n step s t w → u < n → step t u → LeadsTo n step s u (w ++ u ∷ [])
  leads_more s t u w h k e = leads_on s t u w (u ∷ []) h (leads_by_step t u (ends_below s t w h) k e)

  -- a walk through x leads to x, and from x on
  pub leads_up_to : (s t x : ℕ) (v w : List ℕ) → LeadsTo n step s t (v ++ x ∷ w) → LeadsTo n step s x (v ++ x ∷ [])
  leads_up_to s t x [] w h = (h.0, h.1, (starts_below x t w h.2, refl))
  leads_up_to s t x (y ∷ v) w h = (h.0, h.1, leads_up_to y t x v w h.2)

  pub leads_from : (s t x : ℕ) (v w : List ℕ) → LeadsTo n step s t (v ++ x ∷ w) → LeadsTo n step x t w
  leads_from s t x [] w h = h.2
  leads_from s t x (y ∷ v) w h = leads_from y t x v w h.2

  -- a walk is its first entry and where the rest leads
  pub reaches_by : (s t x : ℕ) (w : List ℕ) → LeadsTo n step s t (x ∷ w) → Reaches n step s t
  reaches_by s t x w h = (s ∷ x ∷ w, (refl, h), omega arith)

  pub rest_of_reach : (s t : ℕ) → Reaches n step s t → (x : ℕ) × (w : List ℕ) × LeadsTo n step s t (x ∷ w)
  rest_of_reach s t r = go r.0 r.1 r.2
    where
      go : (w : List ℕ) → IsWalk n step s t w → 1 < length w → (x : ℕ) × (w : List ℕ) × LeadsTo n step s t (x ∷ w)
      go [] h l = absurd h
      go (y ∷ []) h l = absurd (omega arith)
      go (y ∷ x ∷ w) h l = (x, w, subst (λ z. LeadsTo n step z t (x ∷ w)) h.0 h.1)

  pub reach_starts_below : (s t : ℕ) → Reaches n step s t → s < n
  reach_starts_below s t r = let k = rest_of_reach s t r in starts_below s t (k.0 ∷ k.1) k.2

  pub reach_ends_below : (s t : ℕ) → Reaches n step s t → t < n
  reach_ends_below s t r = let k = rest_of_reach s t r in ends_below s t (k.0 ∷ k.1) k.2

  pub reach_by_step : (s t : ℕ) → s < n → t < n → step s t → Reaches n step s t
  reach_by_step s t a b h = reaches_by s t t [] (leads_by_step s t a b h)

  pub reach_on : (s t u : ℕ) → Reaches n step s t → Reaches n step t u → Reaches n step s u
  reach_on s t u p q =
      let k = rest_of_reach s t p in
      let l = rest_of_reach t u q in
      reaches_by s u k.0 (k.1 ++ l.0 ∷ l.1) (leads_on s t u (k.0 ∷ k.1) (l.0 ∷ l.1) k.2 l.2)

-- a walk by steps that are steps of another relation too
pub leads_by_weaker : (n : ℕ) (step other : ℕ → ℕ → Type 0) → ((s t : ℕ) → s < n → t < n → step s t → other s t) → (s t : ℕ) (w : List ℕ) → LeadsTo n step s t w → LeadsTo n other s t w
leads_by_weaker n step other f s t [] h = h
leads_by_weaker n step other f s t (x ∷ w) h =
    (h.0, f s x h.0 (starts_below n step x t w h.2) h.1, leads_by_weaker n step other f x t w h.2)

pub walks_by_weaker : (n : ℕ) (step other : ℕ → ℕ → Type 0) → ((s t : ℕ) → s < n → t < n → step s t → other s t) → (s t : ℕ) (w : List ℕ) → IsWalk n step s t w → IsWalk n other s t w
walks_by_weaker n step other f s t [] h = h
walks_by_weaker n step other f s t (x ∷ w) h = (h.0, leads_by_weaker n step other f x t w h.1)

-- a step of one walk after another is a step of one of them
pub has_step_left : (step : ℕ → ℕ → Type 0) (s : ℕ) (v w : List ℕ) → HasStepFrom step s v → HasStepFrom step s (v ++ w)
has_step_left step s [] w h = absurd h
has_step_left step s (x ∷ v) w (inl h) = inl h
has_step_left step s (x ∷ v) w (inr h) = inr (has_step_left step x v w h)

pub has_step_right : (n : ℕ) (weak step : ℕ → ℕ → Type 0) (s t : ℕ) (v w : List ℕ) → LeadsTo n weak s t v → HasStepFrom step t w → HasStepFrom step s (v ++ w)
has_step_right n weak step s t [] w l h = subst (λ x. HasStepFrom step x w) (sym l.1) h
has_step_right n weak step s t (x ∷ v) w l h = inr (has_step_right n weak step x t v w l.2 h)

pub has_step_cases : (step : ℕ → ℕ → Type 0) (s x : ℕ) (v w : List ℕ) → HasStepFrom step s (v ++ x ∷ w) → HasStepFrom step s (v ++ x ∷ []) ⊎ HasStepFrom step x w
has_step_cases step s x [] w (inl h) = inl (inl h)
has_step_cases step s x [] w (inr h) = inr h
has_step_cases step s x (y ∷ v) w (inl h) = inl (inl h)
has_step_cases step s x (y ∷ v) w (inr h) =
    elim (has_step_cases step y x v w h) [ inl k ↦ inl (inr k) | inr k ↦ inr k ]

pub has_weaker_step : (n : ℕ) (weak step other : ℕ → ℕ → Type 0) → ((s t : ℕ) → s < n → t < n → step s t → other s t) → (s t : ℕ) (w : List ℕ) → LeadsTo n weak s t w → HasStepFrom step s w → HasStepFrom other s w
has_weaker_step n weak step other f s t [] l h = h
has_weaker_step n weak step other f s t (x ∷ w) l (inl h) = inl (f s x l.0 (starts_below n weak x t w l.2) h)
has_weaker_step n weak step other f s t (x ∷ w) l (inr h) = inr (has_weaker_step n weak step other f x t w l.2 h)
