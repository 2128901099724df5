-- The observations below and strictly below by where the walks to them start.
use Rattle.std.proofs.Common.{◌<◌, ◌⊎◌, ◌↔◌, inl, inr, ℕ, List, [], ◌∷◌, ◌++◌, refl, subst, arith}
use Rattle.rp_evidence.specs.Demand.{BudgetInput, Buys, BuysWithRest, IsBelow, IsStrictStart, IsStrictlyBelow}
use Rattle.rp_evidence.specs.Input.{TableInput}
use Rattle.rp_evidence.specs.Preference.{IsStrict, IsWeak}
use Rattle.rp_evidence.specs.Walk.{HasStep, HasStepFrom, IsWalk, LeadsTo}
use Rattle.rp_evidence.specs.Welfare.{EqualsOrReaches}
use Rattle.rp_evidence.proofs.EqualOrReached.{leads_by, rest_of}
use Rattle.rp_evidence.proofs.Levels.{strict_to_weak}
use Rattle.rp_evidence.proofs.Walks.{has_step_right, leads_by_step, leads_on, starts_below}

module _ (input : TableInput) (budget : BudgetInput) where
  -- a walk of weak steps, or of none
  abbrev Leads : ℕ → ℕ → List ℕ → Type 0
  Leads s t w = LeadsTo input.n (IsWeak input.cost) s t w

  below_by : (s t : ℕ) (w : List ℕ) → Buys input budget s → Leads s t w → IsBelow input budget t
  below_by s t w b l = record { from = s; walk = s ∷ w; bought = b; leads = (refl, l) }

  strictly_by : (s t : ℕ) (w : List ℕ) → Buys input budget s → Leads s t w → BuysWithRest input budget s ⊎ HasStepFrom (IsStrict input.cost) s w → IsStrictlyBelow input budget t
  strictly_by s t w b l h = record { from = s; walk = s ∷ w; bought = b; leads = (refl, l); strict = h }

  way_to : (t : ℕ) → IsBelow input budget t → (s : ℕ) × (w : List ℕ) × Buys input budget s × Leads s t w
  way_to t b = let k = rest_of input b.from t (b.walk, b.leads) in (b.from, k.0, b.bought, k.1)

  strict_way_to : (t : ℕ) → IsStrictlyBelow input budget t
      → (s : ℕ) × (w : List ℕ) × Buys input budget s × Leads s t w × (BuysWithRest input budget s ⊎ HasStepFrom (IsStrict input.cost) s w)
  strict_way_to t b = go b.walk b.leads b.strict
    where
      go : (w : List ℕ) → IsWalk input.n (IsWeak input.cost) b.from t w → BuysWithRest input budget b.from ⊎ HasStep (IsStrict input.cost) w
          → (s : ℕ) × (w : List ℕ) × Buys input budget s × Leads s t w × (BuysWithRest input budget s ⊎ HasStepFrom (IsStrict input.cost) s w)
      go [] l h = absurd l
      go (x ∷ w) l h = (
        b.from,
        w,
        b.bought,
        subst (λ z. Leads z t w) l.0 l.1,
        elim h [ inl k ↦ inl k | inr k ↦ inr (subst (λ z. HasStepFrom (IsStrict input.cost) z w) l.0 k) ],
      )

  -- a walk with a strict step is split at the end of that step
  split : (u t : ℕ) (w : List ℕ) → IsBelow input budget u → Leads u t w → HasStepFrom (IsStrict input.cost) u w
      → (v : ℕ) × (v < input.n) × IsStrictStart input budget v × (x : List ℕ) × Leads v t x
  split u t [] b l h = absurd h
  split u t (x ∷ w) b l (inl h) =
      (x, starts_below input.n (IsWeak input.cost) x t w l.2, inr (u, l.0, b, h), w, l.2)
  split u t (x ∷ w) b l (inr h) =
      let k = way_to u b in
      let x_in = starts_below input.n (IsWeak input.cost) x t w l.2 in
      let more = leads_on input.n (IsWeak input.cost) k.0 u x k.1 (x ∷ []) k.3 (leads_by_step input.n (IsWeak input.cost) u x l.0 x_in l.1) in
      split x t w (below_by k.0 x (k.1 ++ x ∷ []) k.2 more) l.2 h

  joined : (v t : ℕ) (w : List ℕ) → IsStrictStart input budget v → Leads v t w → IsStrictlyBelow input budget t
  joined v t w (inl rest) l = strictly_by v t w (omega (arith, rest)) l (inl rest)
  joined v t w (inr u) l =
      let k = way_to u.0 u.2 in
      strictly_by k.0 t (k.1 ++ v ∷ w) k.2
      (leads_on input.n (IsWeak input.cost) k.0 u.0 t k.1 (v ∷ w) k.3 (u.1, strict_to_weak input.cost 1 1 u.0 v u.3, l))
      (inr (has_step_right input.n (IsWeak input.cost) (IsStrict input.cost) k.0 u.0 k.1 (v ∷ w) k.3 (inl u.3)))

  from_start : (s t : ℕ) (w : List ℕ) → Buys input budget s → Leads s t w → BuysWithRest input budget s ⊎ HasStepFrom (IsStrict input.cost) s w
      → (v : ℕ) × (v < input.n) × IsStrictStart input budget v × (x : List ℕ) × Leads v t x
  from_start s t w b l (inl rest) = (s, starts_below input.n (IsWeak input.cost) s t w l, inl rest, w, l)
  from_start s t w b l (inr h) = split s t w (below_by s s [] b (starts_below input.n (IsWeak input.cost) s t w l, refl)) l h

  -- ---- below, and strictly below, by what equals or reaches

  pub below_exactly : (t : ℕ) → ((s : ℕ) × (s < input.n) × Buys input budget s × EqualsOrReaches input s t) ↔ IsBelow input budget t
  below_exactly t = (
    (λ h. let w = rest_of input h.0 t h.3 in below_by h.0 t w.0 h.2 w.1),
    (λ b. let k = way_to t b in (k.0, starts_below input.n (IsWeak input.cost) k.0 t k.1 k.3, k.2, leads_by input k.0 t k.1 k.3)),
  )

  pub strictly_exactly : (t : ℕ) → ((v : ℕ) × (v < input.n) × IsStrictStart input budget v × EqualsOrReaches input v t) ↔ IsStrictlyBelow input budget t
  strictly_exactly t = (
    (λ h. let w = rest_of input h.0 t h.3 in joined h.0 t w.0 h.2 w.1),
    (λ b.
        let k = strict_way_to t b in
        let v = from_start k.0 t k.1 k.2 k.3 k.4 in
        (v.0, v.1, v.2, leads_by input v.0 t v.3 v.4)),
  )
