-- Walks over one budget more, by what the last budget leads to and what leads to it.
use Rattle.std.proofs.Common.{◌≡◌, ◌<◌, ◌≤◌, ◌⊎◌, ◌+◌, inl, inr, ℕ, List, [], ◌∷◌, refl, sym, subst, arith}
use Rattle.std.proofs.lemmas.Bool.{cases_eq}
use Rattle.rp_evidence.specs.Walk.{LeadsTo}
use Rattle.rp_evidence.proofs.Walks.{leads_by_step, leads_on, starts_below, ends_below}

module _ (weak : ℕ → ℕ → Type 0) (d : ℕ) where
  -- walks over the first d budgets
  abbrev R : ℕ → ℕ → Type 0
  R k t = (walk : List ℕ) × LeadsTo d weak k t walk

  -- walks over one more
  abbrev More : ℕ → ℕ → Type 0
  More k t = (walk : List ℕ) × LeadsTo (d + 1) weak k t walk

  -- budget d leads to t
  abbrev pub Out : ℕ → Type 0
  Out t = (t ≡ d) ⊎ ((j : ℕ) × (j < d) × weak d j × R j t)

  -- k leads to budget d
  abbrev pub In : ℕ → Type 0
  In k = (k ≡ d) ⊎ ((m : ℕ) × R k m × weak m d)

  pub wider : (k t : ℕ) (walk : List ℕ) → LeadsTo d weak k t walk → LeadsTo (d + 1) weak k t walk
  wider k t [] h = (omega (arith, h.0), h.1)
  wider k t (x ∷ w) h = (omega (arith, h.0), h.1, wider x t w h.2)

  joined : (a b c : ℕ) → More a b → More b c → More a c
  joined a b c first second = (_, leads_on (d + 1) weak a b c first.0 second.0 first.1 second.1)

  here : (k : ℕ) → k ≤ d → More k k
  here k l = ([], (omega (arith, l), refl))

  step : (a b : ℕ) → a ≤ d → b ≤ d → weak a b → More a b
  step a b la lb h = (b ∷ [], leads_by_step (d + 1) weak a b (omega (arith, la)) (omega (arith, lb)) h)

  into : (k : ℕ) → In k → More k d
  into k (inl e) = subst (λ x. More x d) (sym e) (here d (omega arith))
  into k (inr h) =
      let first = wider k h.0 h.1.0 h.1.1 in
      let below = ends_below d weak k h.0 h.1.0 h.1.1 in
      joined k h.0 d (h.1.0, first) (step h.0 d (omega (arith, below)) (omega arith) h.2)

  out : (t : ℕ) → Out t → More d t
  out t (inl e) = subst (λ x. More d x) (sym e) (here d (omega arith))
  out t (inr h) = joined d h.0 t (step d h.0 (omega arith) (omega (arith, h.1)) h.2) (h.3.0, wider h.0 t h.3.0 h.3.1)

  pub through : (k t : ℕ) → In k → Out t → More k t
  through k t a b = joined k d t (into k a) (out t b)

  -- a walk over one more passes the last, or does not
  pub taken_apart : (s t : ℕ) (walk : List ℕ) → LeadsTo (d + 1) weak s t walk → R s t ⊎ (In s × Out t)
  taken_apart s t [] h = elim (cases_eq s d) [
    | inl e ↦ inr (inl e, inl (subst (λ x. x ≡ d) h.1 e))
    | inr a ↦ inl ([], (omega (arith, h.0, a), h.1))
  ]
  taken_apart s t (x ∷ w) h = by (taken_apart x t w h.2) (cases_eq s d)
    where
      by : R x t ⊎ (In x × Out t) → (s ≡ d) ⊎ (¬ (s ≡ d)) → R s t ⊎ (In s × Out t)
      by (inl r) (inl e) = inr (inl e, inr (x, starts_below d weak x t r.0 r.1, subst (λ y. weak y x) e h.1, r))
      by (inl r) (inr a) = inl (x ∷ r.0, (omega (arith, h.0, a), h.1, r.1))
      by (inr q) (inl e) = inr (inl e, q.1)
      by (inr q) (inr a) = inr (enter q.0, q.1)
        where
          enter : In x → In s
          enter (inl e) = inr (s, ([], (omega (arith, h.0, a), refl)), subst (λ y. weak s y) e h.1)
          enter (inr m) = inr (m.0, (x ∷ m.1.0, (omega (arith, h.0, a), h.1, m.1.1)), m.2)
