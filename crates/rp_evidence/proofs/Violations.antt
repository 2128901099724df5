-- Violations: how they turn, what they contain, and what excludes them.
use Rattle.std.proofs.Common.{◌≡◌, ◌<◌, ◌≤◌, ℕ, zero, suc, List, [], ◌∷◌, ◌++◌, length, length-append, inl, inr, refl, sym, ap, subst, arith, Contains, get_or, slice_index}
use Rattle.rp_evidence.specs.Walk.{LeadsTo, IsWalk, Reaches, IsClosedWalk, HasStepFrom}
use Rattle.rp_evidence.specs.Garp.{IsViolation}
use Rattle.rp_evidence.specs.Ranks.{RespectPreference}
use Rattle.rp_evidence.proofs.Walks.{starts_below, ends_below, leads_on, leads_by_step, leads_up_to, leads_from, reaches_by, reach_by_step, walks_by_weaker, has_step_left, has_step_right, has_step_cases, has_weaker_step}

-- ---- ranks

module _ (n : ℕ) (weak strict : ℕ → ℕ → Type 0) (ranks : List ℕ) (respect : RespectPreference n weak strict ranks) where
  pub never_rises : (s t : ℕ) (w : List ℕ) → LeadsTo n weak s t w → slice_index ranks t ≤ slice_index ranks s
  never_rises s t [] h = subst (λ x. slice_index ranks x ≤ slice_index ranks s) h.1 (omega arith)
  never_rises s t (x ∷ w) h =
      let a = never_rises x t w h.2 in
      let b = respect.weak_never_rises s x h.0 (starts_below n weak x t w h.2) h.1 in
      omega arith

  pub falls : (s t : ℕ) (w : List ℕ) → LeadsTo n weak s t w → HasStepFrom strict s w → slice_index ranks t < slice_index ranks s
  falls s t [] h k = absurd k
  falls s t (x ∷ w) h (inl k) =
      let a = never_rises x t w h.2 in
      let b = respect.strict_falls s x h.0 (starts_below n weak x t w h.2) k in
      omega arith
  falls s t (x ∷ w) h (inr k) =
      let a = falls x t w h.2 k in
      let b = respect.weak_never_rises s x h.0 (starts_below n weak x t w h.2) h.1 in
      omega arith

  pub no_violation_under_ranks : (w : List ℕ) → ¬ IsViolation n weak strict w
  no_violation_under_ranks [] v = absurd v.1
  no_violation_under_ranks (x ∷ w) v =
      let l = subst (λ z. LeadsTo n weak x z w) (sym v.0.1.0) v.0.1.1 in
      absurd (omega (arith, falls x x w l v.1))

-- ---- turning

-- the list before its first s, and after it
pub split_at : (w : List ℕ) (k s : ℕ) → k < length w → get_or w k s ≡ s → (a : List ℕ) × (b : List ℕ) × (w ≡ a ++ s ∷ b)
split_at [] k s l e = absurd (omega arith)
split_at (x ∷ w) zero s l e = ([], w, ap (λ y. y ∷ w) e)
split_at (x ∷ w) (suc k) s l e =
    let r = split_at w k s (omega arith) e in
    (x ∷ r.0, r.1, ap (λ v. x ∷ v) r.2)

module _ (n : ℕ) (weak strict : ℕ → ℕ → Type 0) where
  -- a closed walk from x, as its steps
  pub violates_by : (x y : ℕ) (w : List ℕ) → LeadsTo n weak x x (y ∷ w) → HasStepFrom strict x (y ∷ w) → IsViolation n weak strict (x ∷ y ∷ w)
  violates_by x y w l h = ((x, (refl, l), omega arith), h)

  pub violation_leads : (x : ℕ) (w : List ℕ) → IsViolation n weak strict (x ∷ w) → LeadsTo n weak x x w × HasStepFrom strict x w
  violation_leads x w v = (subst (λ z. LeadsTo n weak x z w) (sym v.0.1.0) v.0.1.1, v.1)

  violates_turned : (s : ℕ) (b a : List ℕ) → LeadsTo n weak s s (b ++ (a ++ s ∷ [])) → HasStepFrom strict s (b ++ (a ++ s ∷ [])) → IsViolation n weak strict (s ∷ b ++ (a ++ s ∷ []))
  violates_turned s b a l h = ((s, (refl, l), long (b ++ (a ++ s ∷ [])) h), h)
    where
      long : (w : List ℕ) → HasStepFrom strict s w → 1 < suc (length w)
      long [] k = absurd k
      long (y ∷ w) k = omega arith

  pub turns : (x s : ℕ) (a b : List ℕ) → LeadsTo n weak x x (a ++ s ∷ b) → HasStepFrom strict x (a ++ s ∷ b) → IsViolation n weak strict (s ∷ b ++ (a ++ s ∷ []))
  turns x s a b l h =
      let to = leads_up_to n weak x x s a b l in
      let on = leads_from n weak x x s a b l in
      violates_turned s b a (leads_on n weak s x s b (a ++ s ∷ []) on to)
      (elim (has_step_cases strict x s a b h) [
        | inl k ↦ has_step_right n weak strict s x b (a ++ s ∷ []) on k
        | inr k ↦ has_step_left strict s b (a ++ s ∷ []) k
      ])

  pub violation_turns : (walk : List ℕ) (s : ℕ) → IsViolation n weak strict walk → Contains walk s → (turned : List ℕ) × IsViolation n weak strict turned × (slice_index turned 0 ≡ s) × (length turned ≡ length walk)
  violation_turns [] s v m = absurd v.1
  violation_turns (x ∷ w) s v m = go m.0 m.1 m.2
    where
      go : (k : ℕ) → k < length (x ∷ w) → get_or (x ∷ w) k s ≡ s → (turned : List ℕ) × IsViolation n weak strict turned × (slice_index turned 0 ≡ s) × (length turned ≡ length (x ∷ w))
      go zero l e = (x ∷ w, v, e, refl)
      go (suc k) l e =
          let p = split_at w k s (omega arith) e in
          let q = violation_leads x w v in (
            s ∷ p.1 ++ (p.0 ++ s ∷ []),
            turns x s p.0 p.1 (subst (λ z. LeadsTo n weak x x z) p.2 q.0) (subst (λ z. HasStepFrom strict x z) p.2 q.1),
            refl,
            omega (arith, ap length p.2, length-append p.0 (s ∷ p.1), length-append p.1 (p.0 ++ s ∷ []), length-append p.0 (s ∷ [])),
          )

  -- ---- a walk there and a strict step back

  pub reach_and_strict : (s t : ℕ) (walk : List ℕ) → IsWalk n weak s t walk → weak t s → strict t s → IsViolation n weak strict (walk ++ s ∷ [])
  reach_and_strict s t [] l p h = absurd l
  reach_and_strict s t (x ∷ w) l p h =
      let back = leads_by_step n weak t s (ends_below n weak x t w l.1) (subst (λ z. z < n) l.0 (starts_below n weak x t w l.1)) p in (
        (s, (l.0, leads_on n weak x t s w (s ∷ []) l.1 back), omega (arith, length-append w (s ∷ []))),
        has_step_right n weak strict x t w (s ∷ []) l.1 (inl h),
      )

  strict_step : (s t : ℕ) (w : List ℕ) → LeadsTo n weak s t w → HasStepFrom strict s w → (p : ℕ) × (q : ℕ) × (a : List ℕ) × (b : List ℕ) × LeadsTo n weak s p a × weak p q × strict p q × LeadsTo n weak q t b
  strict_step s t [] l h = absurd h
  strict_step s t (x ∷ w) l (inl h) = (s, x, [], w, (l.0, refl), l.1, h, l.2)
  strict_step s t (x ∷ w) l (inr h) =
      let r = strict_step x t w l.2 h in
      (r.0, r.1, x ∷ r.2, r.3, (l.0, l.1, r.4), r.5, r.6, r.7)

  back_to : (p q : ℕ) (w : List ℕ) → LeadsTo n weak q p w → p < n → weak p q → Reaches n weak q p
  back_to p q [] l b k = reach_by_step n weak q p l.0 b (subst (λ z. weak z p) (sym l.1) (subst (λ z. weak p z) l.1 k))
  back_to p q (x ∷ w) l b k = reaches_by n weak q p x w l

  pub has_reach_and_strict : (walk : List ℕ) → IsViolation n weak strict walk → (s : ℕ) × (t : ℕ) × Reaches n weak s t × strict t s
  has_reach_and_strict [] v = absurd v.1
  has_reach_and_strict (x ∷ w) v =
      let q = violation_leads x w v in
      let r = strict_step x x w q.0 q.1 in
      (r.1, r.0, back_to r.0 r.1 (r.3 ++ r.2) (leads_on n weak r.1 x r.0 r.3 r.2 r.7 r.4) (ends_below n weak x r.0 r.2 r.4) r.5, r.6)

-- a violation stays one where more steps are weak and strict
pub violates_by_weaker : (n : ℕ) (weak strict weak' strict' : ℕ → ℕ → Type 0) → ((s t : ℕ) → s < n → t < n → weak s t → weak' s t) → ((s t : ℕ) → s < n → t < n → strict s t → strict' s t) → (walk : List ℕ) → IsViolation n weak strict walk → IsViolation n weak' strict' walk
violates_by_weaker n weak strict weak' strict' f g [] v = absurd v.1
violates_by_weaker n weak strict weak' strict' f g (x ∷ w) v = (
  (v.0.0, walks_by_weaker n weak weak' f v.0.0 v.0.0 (x ∷ w) v.0.1, v.0.2),
  has_weaker_step n weak strict strict' g x v.0.0 w v.0.1.1 v.1,
)

-- a closed walk whose steps are all strict in another relation is a violation there
pub closed_walk_violates : (n : ℕ) (weak weak' strict' : ℕ → ℕ → Type 0) → ((s t : ℕ) → s < n → t < n → weak s t → weak' s t) → ((s t : ℕ) → s < n → t < n → weak s t → strict' s t) → (walk : List ℕ) → IsClosedWalk n weak walk → IsViolation n weak' strict' walk
closed_walk_violates n weak weak' strict' f g [] h = absurd h.1
closed_walk_violates n weak weak' strict' f g (x ∷ []) h = absurd (omega (arith, h.2))
closed_walk_violates n weak weak' strict' f g (x ∷ y ∷ w) h = (
  (h.0, walks_by_weaker n weak weak' f h.0 h.0 (x ∷ y ∷ w) h.1, h.2),
  inl (g x y h.1.1.0 (starts_below n weak y h.0 w h.1.1.2) h.1.1.1),
)
