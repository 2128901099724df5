-- Observations from which no step leads to one that is left are taken away, again and again. None of them returns to
-- itself: its steps lead to such as were taken away before. Where each that is left leads to one that is left, some
-- returns to itself: the last of them can be passed by, since it leads on.
use Rattle.std.proofs.Common.{◌≡◌, ◌<◌, ◌≤◌, ◌+◌, ◌⊎◌, ◌↔◌, IsTrue, MatchBool, inl, inr, ℕ, zero, suc, Bool, true, false, List, [], ◌∷◌, length, get_or, get_or-set_same, get_or-set_other, set, length-set, cond, refl, sym, ap, subst, ◌∙◌, arith}
use Rattle.std.proofs.lemmas.Bool.{cases_eq, false≢true}
use Rattle.std.proofs.lemmas.List.Sums.{sum_by-set}
use Rattle.rp_evidence.specs.Walk.{IsClosedWalk, LeadsTo, Reaches}
use Rattle.rp_evidence.proofs.Walks.{reach_by_step, reach_on, reaches_by, reach_starts_below, rest_of_reach, starts_below}
use Rattle.rp_effic.specs.InnerLeft.{AreLeft, HasLooked, IsLeft, LeadsToLeft, LeadsToNoneLeft, NoneIsLeft, SomeIsLeft, left_of}

-- s is left, or not
pub left_or_not : (left : List Bool) (s : ℕ) → IsLeft left s ⊎ (¬ IsLeft left s)
left_or_not left s = go (get_or left s false) refl
  where
    go : (b : Bool) → get_or left s false ≡ b → IsLeft left s ⊎ (¬ IsLeft left s)
    go true e = inl e
    go false e = inr (λ h. false≢true (sym e ∙ h))

-- what is left after one was taken away was left before
module _ (left : List Bool) (s : ℕ) (within : s < length left) where
  taken_is_not : ¬ IsLeft (set left s false) s
  taken_is_not h = false≢true (sym (get_or-set_same left s false false within) ∙ h)

  pub left_before : (x : ℕ) → IsLeft (set left s false) x → IsLeft left x
  left_before x h = elim (cases_eq x s) [
    | inl e ↦ absurd (taken_is_not (subst (λ y. IsLeft (set left s false) y) e h))
    | inr e ↦ sym (get_or-set_other left s x false false e) ∙ h
  ]

  pub fewer_left : IsLeft left s → left_of (set left s false) < left_of left
  fewer_left h =
      let a = sum_by-set (λ b. cond b 1 0) left s false false within in
      let b : ◌≡◌ {A = ℕ} (cond (get_or left s false) 1 0) 1 = ap (λ x. cond x 1 0) h in
      omega (arith, a, b)

module _ (n : ℕ) (step : ℕ → ℕ → Type 0) (starts to : List ℕ) (left : List Bool) (at : List ℕ) (are : AreLeft n step starts to left at) where
  -- one that leads to none that is left does not return to itself
  no_return : (s : ℕ) → LeadsToNoneLeft n step left s → IsLeft left s → ¬ Reaches n step s s
  no_return s none here r =
      let k = rest_of_reach n step s s r in
      go k.0 k.1 k.2
    where
      on : (x : ℕ) → x < n → step s x → s < n → (w : List ℕ) → LeadsTo n step x s w → ⊥
      on x x_in e s_in [] h = none x x_in e (subst (λ y. IsLeft left y) (sym h.1) here)
      on x x_in e s_in (y ∷ w) h =
          are.gone x x_in (none x x_in e) (reach_on n step x s x (reaches_by n step x s y w h) (reach_by_step n step s x s_in x_in e))

      go : (x : ℕ) (w : List ℕ) → LeadsTo n step s s (x ∷ w) → ⊥
      go x w h = on x (starts_below n step x s w h.2) h.1 h.0 w h.2

  -- it is taken away
  pub taken : (s : ℕ) → s < n → IsLeft left s → LeadsToNoneLeft n step left s → AreLeft n step starts to (set left s false) at
  taken s s_in here none = record {
    left_each = length-set left s false ∙ are.left_each;
    at_each = are.at_each;
    gone = gone;
    passed = λ x p x_in a b h. are.passed x p x_in a b (left_before left s (omega (arith, are.left_each)) (get_or to p 0) h);
  }
    where
      gone : (x : ℕ) → x < n → ¬ IsLeft (set left s false) x → ¬ Reaches n step x x
      gone x x_in off = elim (cases_eq x s) [
        | inl e ↦ subst (λ y. ¬ Reaches n step y y) (sym e) (no_return s none here)
        | inr e ↦ are.gone x x_in (λ h. off (get_or-set_other left s x false false e ∙ h))
      ]

  -- or its place moves on past steps that lead to none that is left
  pub moved : (s place : ℕ) → s < n → ((p : ℕ) → get_or starts s 0 ≤ p → p < place → IsLeft left (get_or to p 0) → ¬ step s (get_or to p 0)) → AreLeft n step starts to left (set at s place)
  moved s place s_in past = record {
    left_each = are.left_each;
    at_each = length-set at s place ∙ are.at_each;
    gone = are.gone;
    passed = passed;
  }
    where
      passed : (x p : ℕ) → x < n → get_or starts x 0 ≤ p → p < get_or (set at s place) x 0 → IsLeft left (get_or to p 0) → ¬ step x (get_or to p 0)
      passed x p x_in a b h = elim (cases_eq x s) [
        | inl e ↦
            let here : get_or (set at s place) x 0 ≡ place = ap (λ y. get_or (set at s place) y 0) e ∙ get_or-set_same at s place 0 (omega (arith, are.at_each)) in
            subst (λ y. ¬ step y (get_or to p 0)) (sym e) (past p (subst (λ y. get_or starts y 0 ≤ p) e a) (omega arith) h)
        | inr e ↦ are.passed x p x_in a (subst (λ y. p < y) (get_or-set_other at s x place 0 e) b) h
      ]

-- one place more leads to none that is left
pub passed_more : (step : ℕ → ℕ → Type 0) (to : List ℕ) (left : List Bool) (s start place t : ℕ) → get_or to place 0 ≡ t → (IsLeft left t → ¬ step s t)
    → ((p : ℕ) → start ≤ p → p < place → IsLeft left (get_or to p 0) → ¬ step s (get_or to p 0))
    → (p : ℕ) → start ≤ p → p < place + 1 → IsLeft left (get_or to p 0) → ¬ step s (get_or to p 0)
passed_more step to left s start place t there none so_far p a b = elim (cases_eq p place) [
  | inl e ↦ subst (λ x. IsLeft left x → ¬ step s x) (sym (ap (λ x. get_or to x 0) e ∙ there)) none
  | inr e ↦ so_far p a (omega arith)
]

-- ---- where each leads on, some returns to itself

module _ (n : ℕ) (step : ℕ → ℕ → Type 0) (left : List Bool) where
  -- each of those below k reaches one of them
  abbrev LeadOn : ℕ → Type 0
  LeadOn k = (s : ℕ) → s < k → IsLeft left s → (t : ℕ) × (t < k) × IsLeft left t × Reaches n step s t

  some_returns_below : (k s : ℕ) → s < k → IsLeft left s → LeadOn k → (x : ℕ) × Reaches n step x x
  some_returns_below zero s s_in here on = absurd (omega arith)
  some_returns_below (suc k) s s_in here on =
      decide (left_or_not left k) (λ x x_in there f. some_returns_below k x x_in there f)
    where
      -- k is not left, and none leads to it
      without : ¬ IsLeft left k → LeadOn k
      without off x x_in there = let y = on x (omega arith) there in (y.0, below y.0 y.1 y.2, y.2, y.3)
        where
          below : (y : ℕ) → y < suc k → IsLeft left y → y < k
          below y y_in h = elim (cases_eq y k) [
            | inl e ↦ absurd (off (subst (λ z. IsLeft left z) e h))
            | inr e ↦ omega arith
          ]

      -- k is left and leads to t: what leads to k leads to t
      past : (t : ℕ) → t < k → IsLeft left t → Reaches n step k t → LeadOn k
      past t t_in there r x x_in h = let y = on x (omega arith) h in go y.0 y.1 y.2 y.3 (cases_eq y.0 k)
        where
          go : (y : ℕ) → y < suc k → IsLeft left y → Reaches n step x y → (y ≡ k) ⊎ (¬ (y ≡ k)) → (t : ℕ) × (t < k) × IsLeft left t × Reaches n step x t
          go y y_in l q (inl e) = (t, t_in, there, reach_on n step x k t (subst (λ z. Reaches n step x z) e q) r)
          go y y_in l q (inr e) = (y, omega arith, l, q)

      decide : IsLeft left k ⊎ (¬ IsLeft left k) → ((x : ℕ) → x < k → IsLeft left x → LeadOn k → (x : ℕ) × Reaches n step x x) → (x : ℕ) × Reaches n step x x
      decide (inr off) further = further s (apart (cases_eq s k)) here (without off)
        where
          apart : (s ≡ k) ⊎ (¬ (s ≡ k)) → s < k
          apart (inl e) = absurd (off (subst (λ z. IsLeft left z) e here))
          apart (inr e) = omega arith
      decide (inl h) further = let t = on k (omega arith) h in go t.0 t.1 t.2 t.3 (cases_eq t.0 k)
        where
          go : (t : ℕ) → t < suc k → IsLeft left t → Reaches n step k t → (t ≡ k) ⊎ (¬ (t ≡ k)) → (x : ℕ) × Reaches n step x x
          go t t_in l r (inl e) = (k, subst (λ z. Reaches n step k z) e r)
          go t t_in l r (inr e) = let t_below : t < k = omega arith in further t t_below l (past t t_below l r)

  pub some_returns : (s : ℕ) → s < n → IsLeft left s → ((x : ℕ) → x < n → IsLeft left x → LeadsToLeft n step left x) → (x : ℕ) × Reaches n step x x
  some_returns s s_in here lead =
      some_returns_below n s s_in here (λ x x_in h. let t = lead x x_in h in (t.0, t.1, t.2, reach_by_step n step x t.0 x_in t.1 t.3))

-- so a closed walk exists where any are left in the end, and there alone
module _ (n : ℕ) (step : ℕ → ℕ → Type 0) (starts to : List ℕ) (left : List Bool) (at : List ℕ) (are : AreLeft n step starts to left at) (lead : (x : ℕ) → x < n → IsLeft left x → LeadsToLeft n step left x) where
  pub told : (some : Bool) → MatchBool some (SomeIsLeft (length left) left) (NoneIsLeft (length left) left) → IsTrue some ↔ ((walk : List ℕ) × IsClosedWalk n step walk)
  told true h = (
    λ e. let x = some_returns n step left h.0 (subst (λ k. h.0 < k) are.left_each h.1) h.2 lead in (x.1.0, (x.0, x.1.1, x.1.2)),
    λ w. refl,
  )
  told false h = (
    λ e. absurd (false≢true e),
    λ w.
        let r : Reaches n step w.1.0 w.1.0 = (w.0, w.1.1, w.1.2) in
        let within = reach_starts_below n step w.1.0 w.1.0 r in
        absurd (are.gone w.1.0 within (h w.1.0 (subst (λ k. w.1.0 < k) (sym are.left_each) within)) r),
  )

-- ---- all are looked at once

module _ (n : ℕ) (step : ℕ → ℕ → Type 0) (end : ℕ) (old left : List Bool) (fewer : Bool) (so_far : HasLooked n step end old left fewer) where
  at_most : left_of left ≤ left_of old
  at_most = go fewer refl
    where
      go : (b : Bool) → fewer ≡ b → left_of left ≤ left_of old
      go true e = let h = so_far.less e in omega arith
      go false e = let h = ap left_of (so_far.same e) in omega arith

  -- the next one is taken away
  pub looked_taken : end < length left → IsLeft left end → HasLooked n step (end + 1) old (set left end false) true
  looked_taken within here = record {
    less = λ e. let h = fewer_left left end within here in let k = at_most in omega arith;
    same = λ e. absurd (false≢true (sym e));
    lead = λ e. absurd (false≢true (sym e));
  }

  -- or stays, since it is not left, or leads to one that is
  pub looked_past : (IsLeft left end → LeadsToLeft n step left end) → HasLooked n step (end + 1) old left fewer
  looked_past leads = record { less = so_far.less; same = so_far.same; lead = lead }
    where
      lead : fewer ≡ false → (s : ℕ) → s < end + 1 → IsLeft left s → LeadsToLeft n step left s
      lead e s l h = elim (cases_eq s end) [
        | inl k ↦ subst (λ x. LeadsToLeft n step left x) (sym k) (leads (subst (λ x. IsLeft left x) k h))
        | inr k ↦ so_far.lead e s (omega arith) h
      ]
