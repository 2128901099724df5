-- A bundle on a new budget keeps the axiom exactly where it costs enough at each observation below the budget, and more at
-- each one strictly below: a violation through the new observation is cut where it returns there.
use Rattle.std.proofs.Common.{◌≡◌, ◌<◌, ◌≤◌, ◌+◌, ◌*◌, ◌⊎◌, inl, inr, ℕ, List, [], ◌∷◌, ◌++◌, refl, subst, ap, arith}
use Rattle.std.proofs.Math.Nat.{le_of_mul-le-mul_left, lt_of_mul-lt-mul_left, mul-le-mul_left, mul-lt-mul_of_pos_left}
use Rattle.std.proofs.lemmas.Bool.{cases_lt}
use Rattle.rp_evidence.specs.Garp.{IsViolation}
use Rattle.rp_evidence.specs.Preference.{IsWeak, IsStrict}
use Rattle.rp_evidence.specs.Walk.{LeadsTo, HasStepFrom}
use Rattle.rp_evidence.proofs.Violations.{turns, violates_by, violation_leads}
use Rattle.rp_evidence.proofs.Walks.{starts_below, ends_below, leads_by_step, leads_on, leads_more, has_step_left, has_step_right, has_weaker_step}

-- ---- a table of costs with one observation more, all of them times a denominator

-- `costs` between the n observations times den; the bundle n costs `out t` at the prices of t, the bundle t costs `into t`
-- times den at the prices of n, and n itself costs m times den
pub record IsEnlarged (n den m : ℕ) (costs wide : ℕ → ℕ → ℕ) (out into : ℕ → ℕ) : Type 0 where
  pub some : 0 < den
  pub within : (s t : ℕ) → s < n → t < n → wide s t ≡ den * costs s t
  pub outward : (s : ℕ) → s < n → wide s n ≡ out s
  pub inward : (t : ℕ) → t < n → wide n t ≡ den * into t
  pub itself : wide n n ≡ den * m

-- what leads to t: a bundle that m buys, and a walk of weak steps from there
pub record Leads (n m : ℕ) (costs : ℕ → ℕ → ℕ) (into : ℕ → ℕ) (t : ℕ) : Type 0 where
  pub from : ℕ
  pub walk : List ℕ
  pub bought : into from ≤ m
  pub leads : LeadsTo n (IsWeak costs) from t walk

pub record LeadsStrictly (n m : ℕ) (costs : ℕ → ℕ → ℕ) (into : ℕ → ℕ) (t : ℕ) : Type 0 where
  pub from : ℕ
  pub walk : List ℕ
  pub bought : into from ≤ m
  pub leads : LeadsTo n (IsWeak costs) from t walk
  pub strict : (into from < m) ⊎ HasStepFrom (IsStrict costs) from walk

module _ (n den m : ℕ) (costs wide : ℕ → ℕ → ℕ) (out into : ℕ → ℕ) (e : IsEnlarged n den m costs wide out into) where
  abbrev Weak : ℕ → ℕ → Type 0
  Weak = IsWeak costs

  abbrev Strict : ℕ → ℕ → Type 0
  Strict = IsStrict costs

  abbrev WeakWide : ℕ → ℕ → Type 0
  WeakWide = IsWeak wide

  abbrev StrictWide : ℕ → ℕ → Type 0
  StrictWide = IsStrict wide

  widen : (s t : ℕ) → s < n → t < n → Weak s t → WeakWide s t
  widen s t a b h =
      let p = e.within s t a b in
      let q = e.within s s a a in
      let r : den * costs s t ≤ den * costs s s = mul-le-mul_left den (omega arith) in
      omega arith

  widen_strict : (s t : ℕ) → s < n → t < n → Strict s t → StrictWide s t
  widen_strict s t a b h =
      let p = e.within s t a b in
      let q = e.within s s a a in
      let r : den * costs s t < den * costs s s = mul-lt-mul_of_pos_left (omega arith) e.some in
      omega arith

  narrow : (s t : ℕ) → s < n → t < n → WeakWide s t → Weak s t
  narrow s t a b h =
      let p = e.within s t a b in
      let q = e.within s s a a in
      let r : costs s t ≤ costs s s = le_of_mul-le-mul_left {k = den} (omega arith) e.some in
      omega arith

  narrow_strict : (s t : ℕ) → s < n → t < n → StrictWide s t → Strict s t
  narrow_strict s t a b h =
      let p = e.within s t a b in
      let q = e.within s s a a in
      let r : costs s t < costs s s = lt_of_mul-lt-mul_left den (omega arith) in
      omega arith

  -- ---- where the conditions hold no violation goes through the new observation

  module _ (enough : (t : ℕ) → t < n → Leads n m costs into t → den * costs t t ≤ out t) (more : (t : ℕ) → t < n → LeadsStrictly n m costs into t → den * costs t t < out t) where
    one_more : (s t : ℕ) → s < n → t < n → Leads n m costs into s → Weak s t → Leads n m costs into t
    one_more s t a b l h = record {
      from = l.from;
      walk = l.walk ++ t ∷ [];
      bought = l.bought;
      leads = leads_more n Weak l.from s t l.walk l.leads b h;
    }

    one_more_strict : (s t : ℕ) → s < n → t < n → LeadsStrictly n m costs into s → Weak s t → LeadsStrictly n m costs into t
    one_more_strict s t a b l h = record {
      from = l.from;
      walk = l.walk ++ t ∷ [];
      bought = l.bought;
      leads = leads_more n Weak l.from s t l.walk l.leads b h;
      strict = elim l.strict [ inl k ↦ inl k | inr k ↦ inr (has_step_left Strict l.from l.walk (t ∷ []) k) ];
    }

    by_strict : (s t : ℕ) → s < n → t < n → Leads n m costs into s → Strict s t → LeadsStrictly n m costs into t
    by_strict s t a b l h = record {
      from = l.from;
      walk = l.walk ++ t ∷ [];
      bought = l.bought;
      leads = leads_more n Weak l.from s t l.walk l.leads b (omega arith);
      strict = inr (has_step_right n Weak Strict l.from s l.walk (t ∷ []) l.leads (inl h));
    }

    -- from the new observation, and from one that is below, no walk back to the new one has a strict step
    abbrev Clear : List ℕ → Type 0
    Clear w =
        (LeadsTo (n + 1) WeakWide n n w → ¬ HasStepFrom StrictWide n w)
        × ((x : ℕ) → x < n → Leads n m costs into x → LeadsTo (n + 1) WeakWide x n w → ¬ (LeadsStrictly n m costs into x ⊎ HasStepFrom StrictWide x w))

    from_new : (y : ℕ) (w : List ℕ) → Clear w → LeadsTo (n + 1) WeakWide n n (y ∷ w) → ¬ HasStepFrom StrictWide n (y ∷ w)
    from_new y w next l h = go (cases_lt y n) h
      where
        go : (y < n) ⊎ (n ≤ y) → HasStepFrom StrictWide n (y ∷ w) → ⊥
        go (inl b) h =
            let i = e.inward y b in
            let j = e.itself in
            let bought : into y ≤ m = le_of_mul-le-mul_left {k = den} (omega (arith, l.1)) e.some in
            next.1 y b (record { from = y; walk = []; bought = bought; leads = (b, refl) }) l.2
            (elim h [
              | inl k ↦ inl (record { from = y; walk = []; bought = bought; leads = (b, refl); strict = inl (lt_of_mul-lt-mul_left den (omega (arith, k))) })
              | inr k ↦ inr k
            ])
        go (inr b) h =
            let s = starts_below (n + 1) WeakWide y n w l.2 in
            let same : y ≡ n = omega arith in
            elim h [
              | inl k ↦ absurd (let k' = subst (λ z. StrictWide n z) same k in omega (arith, k'))
              | inr k ↦ next.0 (subst (λ z. LeadsTo (n + 1) WeakWide z n w) same l.2) (subst (λ z. HasStepFrom StrictWide z w) same k)
            ]

    from_old : (x y : ℕ) (w : List ℕ) → Clear w → x < n → Leads n m costs into x → LeadsTo (n + 1) WeakWide x n (y ∷ w) → ¬ (LeadsStrictly n m costs into x ⊎ HasStepFrom StrictWide x (y ∷ w))
    from_old x y w next a below l h = go (cases_lt y n) h
      where
        go : (y < n) ⊎ (n ≤ y) → LeadsStrictly n m costs into x ⊎ HasStepFrom StrictWide x (y ∷ w) → ⊥
        go (inl b) h =
            let step = narrow x y a b l.1 in
            next.1 y b (one_more x y a b below step) l.2
            (elim h [
              | inl k ↦ inl (one_more_strict x y a b k step)
              | inr (inl k) ↦ inl (by_strict x y a b below (narrow_strict x y a b k))
              | inr (inr k) ↦ inr k
            ])
        go (inr b) h =
            let s = starts_below (n + 1) WeakWide y n w l.2 in
            let same : y ≡ n = omega arith in
            let step : WeakWide x n = subst (λ z. WeakWide x z) same l.1 in
            let i = e.outward x a in
            let j = e.within x x a a in
            let k = enough x a below in
            elim h [
              | inl d ↦ absurd (let f = more x a d in omega (arith, f, step))
              | inr (inl d) ↦ absurd (let f = subst (λ z. StrictWide x z) same d in omega (arith, f))
              | inr (inr d) ↦ next.0 (subst (λ z. LeadsTo (n + 1) WeakWide z n w) same l.2) (subst (λ z. HasStepFrom StrictWide z w) same d)
            ]

    pub clear : (w : List ℕ) → Clear w
    clear [] = ((λ l h. absurd h), λ x a below l h. absurd (omega (arith, l.1)))
    clear (y ∷ w) = (from_new y w (clear w), λ x a below l h. from_old x y w (clear w) a below l h)

  -- ---- a violation goes through the new observation, or is one of the table

  -- all of a walk is in the table, or it begins at the new observation, or comes to it
  abbrev Parted : ℕ → ℕ → List ℕ → Type 0
  Parted x z w =
      (LeadsTo n Weak x z w × (HasStepFrom StrictWide x w → HasStepFrom Strict x w))
      ⊎ ((x ≡ n) ⊎ ((a : List ℕ) × (b : List ℕ) × (w ≡ a ++ n ∷ b)))

  parted_by : (x y z : ℕ) (w : List ℕ) → WeakWide x y → x < n → Parted y z w → Parted x z (y ∷ w)
  parted_by x y z w step b (inl r) =
      let y_in = starts_below n Weak y z w r.0 in
      inl ((b, narrow x y b y_in step, r.0), λ h. elim h [ inl k ↦ inl (narrow_strict x y b y_in k) | inr k ↦ inr (r.1 k) ])
  parted_by x y z w step b (inr (inl e)) = inr (inr ([], w, ap (λ v. v ∷ w) e))
  parted_by x y z w step b (inr (inr r)) = inr (inr (y ∷ r.0, r.1, ap (λ v. y ∷ v) r.2))

  parted : (x z : ℕ) (w : List ℕ) → LeadsTo (n + 1) WeakWide x z w → Parted x z w
  parted x z [] l = elim (cases_lt x n) [
    | inl b ↦ inl ((b, l.1), λ h. h)
    | inr b ↦ let s = l.0 in inr (inl (omega arith))
  ]
  parted x z (y ∷ w) l =
      let next = parted y z w l.2 in
      elim (cases_lt x n) [
        | inl b ↦ parted_by x y z w l.1 b next
        | inr b ↦ let s = l.0 in inr (inl (omega arith))
      ]

  -- where walks from the new observation back to it have no strict step, there is a violation only in the table
  module _ (none : (w : List ℕ) → LeadsTo (n + 1) WeakWide n n w → ¬ HasStepFrom StrictWide n w) (sound : (walk : List ℕ) → ¬ IsViolation n Weak Strict walk) where
    none_by_parts : (x : ℕ) (w : List ℕ) → LeadsTo (n + 1) WeakWide x x w → HasStepFrom StrictWide x w → Parted x x w → ⊥
    none_by_parts x [] l h r = absurd h
    none_by_parts x (y ∷ w) l h (inl r) =
        let v = violates_by n Weak Strict x y w r.0 (r.1 h) in
        sound (x ∷ y ∷ w) v
    none_by_parts x (y ∷ w) l h (inr (inl e)) =
        none (y ∷ w) (subst (λ z. LeadsTo (n + 1) WeakWide z z (y ∷ w)) e l) (subst (λ z. HasStepFrom StrictWide z (y ∷ w)) e h)
    none_by_parts x (y ∷ w) l h (inr (inr r)) =
        let l' = subst (λ v. LeadsTo (n + 1) WeakWide x x v) r.2 l in
        let h' = subst (λ v. HasStepFrom StrictWide x v) r.2 h in
        let turned = turns (n + 1) WeakWide StrictWide x n r.0 r.1 l' h' in
        let q = violation_leads (n + 1) WeakWide StrictWide n (r.1 ++ (r.0 ++ n ∷ [])) turned in
        none (r.1 ++ (r.0 ++ n ∷ [])) q.0 q.1

    pub only_in_table : (walk : List ℕ) → ¬ IsViolation (n + 1) WeakWide StrictWide walk
    only_in_table [] v = absurd v.1
    only_in_table (x ∷ w) v =
        let q = violation_leads (n + 1) WeakWide StrictWide x w v in
        none_by_parts x w q.0 q.1 (parted x x w q.0)

  -- ---- a condition that fails makes a violation

  back : (s t : ℕ) (w : List ℕ) → LeadsTo n Weak s t w → into s ≤ m → WeakWide t n → LeadsTo (n + 1) WeakWide n n (s ∷ (w ++ n ∷ []))
  back s t w l bought step =
      let s_in = starts_below n Weak s t w l in
      let i = e.inward s s_in in
      let j = e.itself in
      let first : den * into s ≤ den * m = mul-le-mul_left den bought in
      (omega arith, omega (arith, first), leads_on (n + 1) WeakWide s t n w (n ∷ []) (wide_walk s t w l) (leads_by_step (n + 1) WeakWide t n (omega (arith, ends_below n Weak s t w l)) (omega arith) step))
    where
      wide_walk : (s t : ℕ) (w : List ℕ) → LeadsTo n Weak s t w → LeadsTo (n + 1) WeakWide s t w
      wide_walk s t [] l = (omega (arith, l.0), l.1)
      wide_walk s t (x ∷ w) l = (omega (arith, l.0), widen s x l.0 (starts_below n Weak x t w l.2) l.1, wide_walk x t w l.2)

  wide_strict : (s t : ℕ) (w : List ℕ) → LeadsTo n Weak s t w → HasStepFrom Strict s w → HasStepFrom StrictWide s w
  wide_strict s t w l h = has_weaker_step n Weak Strict StrictWide (λ a b a_in b_in k. widen_strict a b a_in b_in k) s t w l h

  module _ (sound : (walk : List ℕ) → ¬ IsViolation (n + 1) WeakWide StrictWide walk) where
    pub costs_enough : (t : ℕ) → t < n → Leads n m costs into t → den * costs t t ≤ out t
    costs_enough t a l = elim (cases_lt (out t) (den * costs t t)) [
      | inl less ↦
          let i = e.outward t a in
          let j = e.within t t a a in
          let around = back l.from t l.walk l.leads l.bought (omega arith) in
          let strict : HasStepFrom StrictWide n (l.from ∷ (l.walk ++ n ∷ [])) =
          inr (has_step_right n Weak StrictWide l.from t l.walk (n ∷ []) l.leads (inl (omega arith))) in
          absurd (sound (n ∷ l.from ∷ (l.walk ++ n ∷ [])) (violates_by (n + 1) WeakWide StrictWide n l.from (l.walk ++ n ∷ []) around strict))
      | inr enough ↦ enough
    ]

    pub costs_more : (t : ℕ) → t < n → LeadsStrictly n m costs into t → den * costs t t < out t
    costs_more t a l = elim (cases_lt (den * costs t t) (out t)) [
      | inl more ↦ more
      | inr less ↦
          let i = e.outward t a in
          let j = e.within t t a a in
          let s_in = starts_below n Weak l.from t l.walk l.leads in
          let p = e.inward l.from s_in in
          let q = e.itself in
          let around = back l.from t l.walk l.leads l.bought (omega arith) in
          let strict : HasStepFrom StrictWide n (l.from ∷ (l.walk ++ n ∷ [])) =
          elim l.strict [
            | inl k ↦ inl (let r : den * into l.from < den * m = mul-lt-mul_of_pos_left k e.some in omega (arith, r))
            | inr k ↦ inr (has_step_left StrictWide l.from l.walk (n ∷ []) (wide_strict l.from t l.walk l.leads k))
          ] in
          absurd (sound (n ∷ l.from ∷ (l.walk ++ n ∷ [])) (violates_by (n + 1) WeakWide StrictWide n l.from (l.walk ++ n ∷ []) around strict))
    ]
