-- What equals or reaches what: by a walk from the first entry on, and by what walks of one step or more join.
use Rattle.std.proofs.Common.{◌≡◌, ◌<◌, ◌⊎◌, inl, inr, ℕ, List, [], ◌∷◌, refl, sym, subst, ◌∙◌, arith}
use Rattle.rp_evidence.specs.Input.{TableInput}
use Rattle.rp_evidence.specs.Preference.{IsWeak}
use Rattle.rp_evidence.specs.Walk.{IsWalk, LeadsTo, Reaches}
use Rattle.rp_evidence.specs.Welfare.{EqualsOrReaches}
use Rattle.rp_evidence.proofs.Walks.{starts_below}

module _ (input : TableInput) (s t : ℕ) where
  pub leads_by : (w : List ℕ) → LeadsTo input.n (IsWeak input.cost) s t w → EqualsOrReaches input s t
  leads_by w l = (s ∷ w, (refl, l))

  pub rest_of : EqualsOrReaches input s t → (w : List ℕ) × LeadsTo input.n (IsWeak input.cost) s t w
  rest_of r = go r.0 r.1
    where
      go : (w : List ℕ) → IsWalk input.n (IsWeak input.cost) s t w → (w : List ℕ) × LeadsTo input.n (IsWeak input.cost) s t w
      go [] h = absurd h
      go (x ∷ w) h = (w, subst (λ z. LeadsTo input.n (IsWeak input.cost) z t w) h.0 h.1)

  pub starts_in : EqualsOrReaches input s t → s < input.n
  starts_in r = let k = rest_of r in starts_below input.n (IsWeak input.cost) s t k.0 k.1

  pub equals : s < input.n → s ≡ t → EqualsOrReaches input s t
  equals l e = (s ∷ [], (refl, (l, e)))

  pub reaches : Reaches input.n (IsWeak input.cost) s t → EqualsOrReaches input s t
  reaches r = (r.0, r.1)

  pub equal_or_reached : EqualsOrReaches input s t → (s ≡ t) ⊎ Reaches input.n (IsWeak input.cost) s t
  equal_or_reached r = go r.0 r.1
    where
      go : (w : List ℕ) → IsWalk input.n (IsWeak input.cost) s t w → (s ≡ t) ⊎ Reaches input.n (IsWeak input.cost) s t
      go [] h = absurd h
      go (x ∷ []) h = inl (sym h.0 ∙ h.1.1)
      go (x ∷ y ∷ w) h = inr (x ∷ y ∷ w, h, omega arith)
