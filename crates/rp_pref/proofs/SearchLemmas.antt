-- The search, one depth noted at a time.
use Rattle.std.proofs.Common.{◌≡◌, ◌≢◌, ◌<◌, ◌≤◌, ◌+◌, inl, inr, ℕ, Bool, true, false, List, refl, sym, ap, subst, ◌∙◌, arith, get_or, get_or-set_same, get_or-set_other, set, length-set, eqb, cond, add-one}
use Rattle.std.proofs.Math.Dec.{eqb-suc-zero}
use Rattle.std.proofs.lemmas.Bool.{cases_eq, false≢true}
use Rattle.std.proofs.lemmas.List.Sums.{sum_by-set}
use Rattle.rp_pref.specs.InnerSearch.{IsStepIn, AreDepths, AddsDepth, IsLookedFrom, LooksFrom, left_of}

-- t, which had no depth, got one more than that of u, from which there is a step
module _ (table : List Bool) (n s t u depth : ℕ) (depths before : List ℕ) (are : AreDepths table n s depths before) (inside : t < n) (none : get_or depths t 0 ≡ 0) (from : u < n) (at : get_or depths u 0 ≡ depth) (walked : 0 < depth) (step : IsStepIn table n u t) where
  at_t : get_or (set depths t (depth + 1)) t 0 ≡ depth + 1
  at_t = get_or-set_same depths t (depth + 1) 0 (omega (arith, are.depth_each))

  before_t : get_or (set before t u) t 0 ≡ u
  before_t = get_or-set_same before t u 0 (omega (arith, are.before_each))

  at_other : (v : ℕ) → v ≢ t → get_or (set depths t (depth + 1)) v 0 ≡ get_or depths v 0
  at_other v e = get_or-set_other depths t v (depth + 1) 0 e

  before_other : (v : ℕ) → v ≢ t → get_or (set before t u) v 0 ≡ get_or before v 0
  before_other v e = get_or-set_other before t v u 0 e

  -- what has a depth is not t
  is_other : (v : ℕ) → 0 < get_or depths v 0 → v ≢ t
  is_other v h e = absurd (omega (arith, ap (λ x. get_or depths x 0) e))

  first : (v : ℕ) → v < n → get_or (set depths t (depth + 1)) v 0 ≡ 1 → IsStepIn table n s v
  first v l h = elim (cases_eq v t) [
    | inl e ↦ absurd (omega (arith, ap (λ x. get_or (set depths t (depth + 1)) x 0) e, at_t))
    | inr d ↦ are.first v l (sym (at_other v d) ∙ h)
  ]

  later_below : (v : ℕ) → v < n → 1 < get_or (set depths t (depth + 1)) v 0 → get_or (set before t u) v 0 < n
  later_below v l h = elim (cases_eq v t) [
    | inl e ↦ subst (λ x. x < n) (sym (ap (λ x. get_or (set before t u) x 0) e ∙ before_t)) from
    | inr d ↦ subst (λ x. x < n) (sym (before_other v d)) (are.later_below v l (subst (λ x. 1 < x) (at_other v d) h))
  ]

  later_depth : (v : ℕ) → v < n → 1 < get_or (set depths t (depth + 1)) v 0 → get_or (set depths t (depth + 1)) (get_or (set before t u) v 0) 0 + 1 ≡ get_or (set depths t (depth + 1)) v 0
  later_depth v l h = elim (cases_eq v t) [
    | inl e ↦
        let b : get_or (set before t u) v 0 ≡ u = ap (λ x. get_or (set before t u) x 0) e ∙ before_t in
        let c : get_or (set depths t (depth + 1)) (get_or (set before t u) v 0) 0 ≡ depth = ap (λ x. get_or (set depths t (depth + 1)) x 0) b ∙ (at_other u (is_other u (omega arith)) ∙ at) in
        let d : get_or (set depths t (depth + 1)) v 0 ≡ depth + 1 = ap (λ x. get_or (set depths t (depth + 1)) x 0) e ∙ at_t in
        omega arith
    | inr d ↦
        let k : 1 < get_or depths v 0 = subst (λ x. 1 < x) (at_other v d) h in
        let old : get_or depths (get_or before v 0) 0 + 1 ≡ get_or depths v 0 = are.later_depth v l k in
        let b : get_or (set before t u) v 0 ≡ get_or before v 0 = before_other v d in
        let c : get_or (set depths t (depth + 1)) (get_or (set before t u) v 0) 0 ≡ get_or depths (get_or before v 0) 0 =
        ap (λ x. get_or (set depths t (depth + 1)) x 0) b ∙ at_other (get_or before v 0) (is_other (get_or before v 0) (omega arith)) in
        omega (arith, at_other v d)
  ]

  later_step : (v : ℕ) → v < n → 1 < get_or (set depths t (depth + 1)) v 0 → IsStepIn table n (get_or (set before t u) v 0) v
  later_step v l h = elim (cases_eq v t) [
    | inl e ↦
        let b : get_or (set before t u) v 0 ≡ u = ap (λ x. get_or (set before t u) x 0) e ∙ before_t in
        subst (λ x. IsStepIn table n x v) (sym b) (subst (λ x. IsStepIn table n u x) (sym e) step)
    | inr d ↦
        subst (λ x. IsStepIn table n x v) (sym (before_other v d)) (are.later_step v l (subst (λ x. 1 < x) (at_other v d) h))
  ]

  pub depth_noted : AreDepths table n s (set depths t (depth + 1)) (set before t u)
  depth_noted = record {
    depth_each = length-set depths t (depth + 1) ∙ are.depth_each;
    before_each = length-set before t u ∙ are.before_each;
    first = first;
    later_below = later_below;
    later_depth = later_depth;
    later_step = later_step;
  }

module _ (table : List Bool) (n s u t : ℕ) (old depths before : List ℕ) (found : Bool) (state : LooksFrom table n s u t old depths before found) (inside : t < n) (from : u < n) (walked : 0 < get_or old u 0) where
  -- the depth of u stays
  stays : get_or depths u 0 ≡ get_or old u 0
  stays = elim (state.adds u from) [ inl e ↦ e | inr e ↦ absurd (omega (arith, e.0)) ]

  pub looks_at : IsStepIn table n u t → get_or depths t 0 ≡ 0 → (new_depths new_before : List ℕ) (more : Bool) → new_depths ≡ set depths t (get_or old u 0 + 1) → new_before ≡ set before t u → more ≡ true → LooksFrom table n s u (t + 1) old new_depths new_before more
  looks_at step none new_depths new_before more d b f = rw (d, b, f) (record {
    sound = depth_noted table n s t u (get_or old u 0) depths before state.sound inside none from stays walked step;
    adds = adds;
    looked = looked;
    finds = record { fewer = λ _. fewer; same = λ e. absurd (false≢true (sym e)) };
  })
    where
      at_t : get_or (set depths t (get_or old u 0 + 1)) t 0 ≡ get_or old u 0 + 1
      at_t = get_or-set_same depths t (get_or old u 0 + 1) 0 (omega (arith, state.sound.depth_each))

      at_other : (v : ℕ) → v ≢ t → get_or (set depths t (get_or old u 0 + 1)) v 0 ≡ get_or depths v 0
      at_other v e = get_or-set_other depths t v (get_or old u 0 + 1) 0 e

      old_none : get_or old t 0 ≡ 0
      old_none = elim (state.adds t inside) [ inl e ↦ sym e ∙ none | inr e ↦ e.0 ]

      adds : AddsDepth n (get_or old u 0 + 1) old (set depths t (get_or old u 0 + 1))
      adds v l = elim (cases_eq v t) [
        | inl e ↦ inr (ap (λ x. get_or old x 0) e ∙ old_none, ap (λ x. get_or (set depths t (get_or old u 0 + 1)) x 0) e ∙ at_t)
        | inr e ↦ elim (state.adds v l) [
          | inl h ↦ inl (at_other v e ∙ h)
          | inr h ↦ inr (h.0, at_other v e ∙ h.1)
        ]
      ]

      looked : IsLookedFrom table n u (t + 1) (set depths t (get_or old u 0 + 1))
      looked v l k e = elim (cases_eq v t) [
        | inl h ↦ absurd (omega (arith, ap (λ x. get_or (set depths t (get_or old u 0 + 1)) x 0) h, at_t))
        | inr h ↦ state.looked v (omega arith) k (sym (at_other v h) ∙ e)
      ]

      at_most : left_of depths ≤ left_of old
      at_most = go found refl
        where
          go : (b : Bool) → found ≡ b → left_of depths ≤ left_of old
          go true e = let h = state.finds.fewer e in omega arith
          go false e = let h = ap left_of (state.finds.same e) in omega arith

      fewer : left_of (set depths t (get_or old u 0 + 1)) < left_of old
      fewer =
          let a = sum_by-set (λ d. cond (eqb d 0) 1 0) depths t (get_or old u 0 + 1) 0 (omega (arith, state.sound.depth_each)) in
          let b : ◌≡◌ {A = ℕ} (cond (eqb (get_or depths t 0) 0) 1 0) 1 = ap (λ x. cond (eqb x 0) 1 0) none in
          let c : ◌≡◌ {A = ℕ} (cond (eqb (get_or old u 0 + 1) 0) 1 0) 0 = ap (λ x. cond x 1 0) (ap (λ x. eqb x 0) (add-one (get_or old u 0)) ∙ eqb-suc-zero (get_or old u 0)) in
          omega (arith, a, b, c, at_most)

  pub looks_past : (IsStepIn table n u t → get_or depths t 0 ≢ 0) → (new_depths new_before : List ℕ) (more : Bool) → new_depths ≡ depths → new_before ≡ before → more ≡ found → LooksFrom table n s u (t + 1) old new_depths new_before more
  looks_past none new_depths new_before more d b f = rw (d, b, f) (record {
    sound = state.sound;
    adds = state.adds;
    looked = looked;
    finds = state.finds;
  })
    where
      looked : IsLookedFrom table n u (t + 1) depths
      looked v l k e = elim (cases_eq v t) [
        | inl h ↦ none (subst (λ x. IsStepIn table n u x) h k) (ap (λ x. get_or depths x 0) (sym h) ∙ e)
        | inr h ↦ state.looked v (omega arith) k e
      ]
