-- The search, one depth after another: what it finds are the least numbers of steps.
use Rattle.std.proofs.Common.{◌≡◌, ◌≢◌, ◌<◌, ◌≤◌, ◌+◌, inl, inr, ℕ, zero, suc, Bool, true, false, List, [], ◌∷◌, ◌++◌, length, length-append, refl, sym, ap, subst, ◌∙◌, arith, get_or, eqb}
use Rattle.std.proofs.lemmas.Bool.{cases_eq, cases_lt, false≢true}
use Rattle.std.proofs.lemmas.List.Sums.{count_by-le-length}
use Rattle.rp_evidence.specs.Walk.{LeadsTo, IsWalk}
use Rattle.rp_evidence.proofs.Walks.{ends_below, leads_by_step, leads_more}
use Rattle.rp_pref.specs.InnerSearch.{IsStepIn, AddsDepth, AreDepths, AreFirst, AreLeastDepths, AreLeastUpTo, AreLookedFrom, Deepens, FindsMore, GoesTo, IsLookedFrom, left_of}

-- ---- one observation after another is looked from

module _ (table : List Bool) (n s depth u : ℕ) (old depths before : List ℕ) (found : Bool) (state : Deepens table n s depth u old depths before found) where
  -- u has another depth
  pub deepens_past : get_or depths u 0 ≢ depth → Deepens table n s depth (u + 1) old depths before found
  deepens_past other = record { sound = state.sound; adds = state.adds; looked = looked; finds = state.finds }
    where
      looked : AreLookedFrom table n depth (u + 1) depths
      looked v l e = elim (cases_eq v u) [
        | inl h ↦ absurd (other (ap (λ x. get_or depths x 0) (sym h) ∙ e))
        | inr h ↦ state.looked v (omega arith) e
      ]

  pub deepens_at : u < n → (new new_before : List ℕ) (more : Bool) → get_or depths u 0 ≡ depth → AreDepths table n s new new_before → AddsDepth n (get_or depths u 0 + 1) depths new → IsLookedFrom table n u n new → FindsMore more depths new → (either : Bool) → (more ≡ true → either ≡ true) → (more ≡ false → either ≡ found) → Deepens table n s depth (u + 1) old new new_before either
  deepens_at inside new new_before more at sound adds from finds either if_more if_none = record { sound = sound; adds = all; looked = looked; finds = record { fewer = fewer; same = same } }
    where
      one : AddsDepth n (depth + 1) depths new
      one v l = elim (adds v l) [ inl e ↦ inl e | inr e ↦ inr (e.0, e.1 ∙ ap (λ x. x + 1) at) ]

      all : AddsDepth n (depth + 1) old new
      all v l = elim (one v l) [
        | inl e ↦ elim (state.adds v l) [ inl h ↦ inl (e ∙ h) | inr h ↦ inr (h.0, e ∙ h.1) ]
        | inr e ↦ elim (state.adds v l) [ inl h ↦ inr (sym h ∙ e.0, e.1) | inr h ↦ inr (h.0, e.1) ]
      ]

      kept : (v : ℕ) → v < n → get_or depths v 0 ≢ 0 → get_or new v 0 ≢ 0
      kept v l h e = elim (one v l) [ inl k ↦ h (sym k ∙ e) | inr k ↦ absurd (omega (arith, k.1)) ]

      looked : AreLookedFrom table n depth (u + 1) new
      looked v l e t k step = elim (cases_eq v u) [
        | inl h ↦ from t k (subst (λ x. IsStepIn table n x t) h step)
        | inr h ↦ kept t k (state.looked v (omega arith) (same_depth v (omega arith) e) t k step)
      ]
        where
          same_depth : (v : ℕ) → v < n → get_or new v 0 ≡ depth → get_or depths v 0 ≡ depth
          same_depth v l e = elim (one v l) [ inl k ↦ sym k ∙ e | inr k ↦ absurd (omega (arith, k.1)) ]

      at_most : (b : Bool) → found ≡ b → left_of depths ≤ left_of old
      at_most true e = let h = state.finds.fewer e in omega arith
      at_most false e = let h = ap left_of (state.finds.same e) in omega arith

      fewer : either ≡ true → left_of new < left_of old
      fewer e = go more refl
        where
          go : (b : Bool) → more ≡ b → left_of new < left_of old
          go true k = let h = finds.fewer k in let a = at_most found refl in omega arith
          go false k = let h = ap left_of (finds.same k) in let a = state.finds.fewer (sym (if_none k) ∙ e) in omega arith

      same : either ≡ false → new ≡ old
      same e = go more refl
        where
          go : (b : Bool) → more ≡ b → new ≡ old
          go true k = absurd (false≢true (sym e ∙ if_more k))
          go false k = finds.same k ∙ state.finds.same (sym (if_none k) ∙ e)

-- ---- walks of a depth

module _ (table : List Bool) (n s : ℕ) (depths before : List ℕ) (are : AreDepths table n s depths before) (start : s < n) where
  walk_of : (k t : ℕ) → t < n → get_or depths t 0 ≡ suc k → (w : List ℕ) × LeadsTo n (IsStepIn table n) s t w × (length w ≡ suc k)
  walk_of zero t l e = (t ∷ [], leads_by_step n (IsStepIn table n) s t start l (are.first t l e), refl)
  walk_of (suc k) t l e =
      let h : 1 < get_or depths t 0 = omega arith in
      let p = get_or before t 0 in
      let d : get_or depths p 0 ≡ suc k = omega (arith, are.later_depth t l h) in
      let r = walk_of k p (are.later_below t l h) d in (
        r.0 ++ t ∷ [],
        leads_more n (IsStepIn table n) s p t r.0 r.1 l (are.later_step t l h),
        omega (arith, length-append r.0 (t ∷ []), r.2),
      )

  -- a walk of as many steps as the depth
  pub walk_of_depth : (t : ℕ) → t < n → 0 < get_or depths t 0 → (w : List ℕ) × LeadsTo n (IsStepIn table n) s t w × (length w ≡ get_or depths t 0)
  walk_of_depth t l h = go (get_or depths t 0) refl h
    where
      go : (d : ℕ) → get_or depths t 0 ≡ d → 0 < d → (w : List ℕ) × LeadsTo n (IsStepIn table n) s t w × (length w ≡ get_or depths t 0)
      go zero e k = absurd (omega arith)
      go (suc d) e k = let r = walk_of d t l e in (r.0, r.1, r.2 ∙ sym e)

-- ---- the last step of a walk

pub last_step : (n : ℕ) (step : ℕ → ℕ → Type 0) (s t x : ℕ) (w : List ℕ) → LeadsTo n step s t (x ∷ w) → (p : ℕ) × (v : List ℕ) × LeadsTo n step s p v × step p t × (length v ≡ length w)
last_step n step s t x [] h = (s, [], (h.0, refl), subst (λ z. step s z) h.2.1 h.1, refl)
last_step n step s t x (y ∷ w) h =
    let r = last_step n step x t y w h.2 in
    (r.0, x ∷ r.1, (h.0, h.1, r.2), r.3, ap suc r.4)

-- ---- one depth more

module _ (table : List Bool) (n s depth : ℕ) (depths before : List ℕ) (are : AreDepths table n s depths before) (start : s < n) (least : AreLeastUpTo table n s depth depths) (looked : AreLookedFrom table n depth n depths) where
  step : ℕ → ℕ → Type 0
  step = IsStepIn table n

  least_through : (m : ℕ) → AreLeastUpTo table n s m depths → ((v : ℕ) → v < n → get_or depths v 0 ≤ m → get_or depths v 0 ≤ depth) → ((v : ℕ) → v < n → get_or depths v 0 ≤ m + 1) → (t : ℕ) (x y : ℕ) (w : List ℕ) → LeadsTo n (IsStepIn table n) s t (x ∷ y ∷ w) → length w + 1 ≡ m → (0 < get_or depths t 0) × (get_or depths t 0 < length w + 3)
  least_through m up near top t x y w h e =
      let r = last_step n (IsStepIn table n) s t x (y ∷ w) h in
      let p = r.0 in
      let inside = ends_below n (IsStepIn table n) s p r.1 r.2 in
      let below = ends_below n (IsStepIn table n) s t (x ∷ y ∷ w) h in
      let long : length r.1 ≡ length w + 1 = omega (arith, r.4) in
      let a = up p (s ∷ r.1) (refl, r.2) (omega arith) (omega arith) in
      let b : get_or depths p 0 ≤ depth = near p inside (omega (arith, a.1)) in
      elim (cases_eq (get_or depths p 0) depth) [
        | inl k ↦
            let c = looked p inside k t below r.3 in
            let d = top t below in
            (omega arith, omega arith)
        | inr k ↦
            let q = walk_of_depth table n s depths before are start p inside a.0 in
            let v = leads_more n (IsStepIn table n) s p t q.0 q.1 below r.3 in
            let c = least t (s ∷ (q.0 ++ t ∷ [])) (refl, v) (omega (arith, length-append q.0 (t ∷ []))) (omega (arith, length-append q.0 (t ∷ []), q.2)) in
            (c.0, omega (arith, c.1, length-append q.0 (t ∷ []), q.2, a.1))
      ]

  pub least_one_more : (m : ℕ) → 0 < m → AreLeastUpTo table n s m depths → ((v : ℕ) → v < n → get_or depths v 0 ≤ m → get_or depths v 0 ≤ depth) → ((v : ℕ) → v < n → get_or depths v 0 ≤ m + 1) → AreLeastUpTo table n s (m + 1) depths
  least_one_more m pos up near top t walk h l k = elim (cases_lt (m + 1) (length walk)) [
    | inl d ↦ longest walk h (omega arith)
    | inr d ↦ up t walk h l (omega arith)
  ]
    where
      longest : (walk : List ℕ) → IsWalk n (IsStepIn table n) s t walk → length walk ≡ m + 2 → (0 < get_or depths t 0) × (get_or depths t 0 < length walk)
      longest [] h e = absurd h
      longest (x ∷ []) h e = absurd (omega arith)
      longest (x ∷ y ∷ []) h e = absurd (omega arith)
      longest (x ∷ y ∷ z ∷ w) h e =
          let r = least_through m up near top t y z w (subst (λ a. LeadsTo n (IsStepIn table n) a t (y ∷ z ∷ w)) h.0 h.1) (omega arith) in
          (r.0, omega (arith, r.1))

  -- nothing more was found: the depths are least among all walks
  pub least_of_all : 0 < depth → ((v : ℕ) → v < n → get_or depths v 0 ≤ depth) → AreLeastDepths table n s depths
  least_of_all pos top t walk h l = up_to (length walk) t walk h l (omega arith)
    where
      up_to : (k : ℕ) → AreLeastUpTo table n s (depth + k) depths
      up_to zero t walk h l b = least t walk h l (omega arith)
      up_to (suc k) t walk h l b =
          least_one_more (depth + k) (omega arith) (up_to k) (λ v c _. top v c) (λ v c. let d = top v c in omega arith) t walk h l (omega arith)

-- ---- from one depth to the next

module _ (table : List Bool) (n s depth : ℕ) (old before : List ℕ) (state : GoesTo table n s depth old before) (start : s < n) (new new_before : List ℕ) (found : Bool) (sound : AreDepths table n s new new_before) (adds : AddsDepth n (depth + 1) old new) (looked : AreLookedFrom table n depth n new) (finds : FindsMore found old new) where
  kept : (t : ℕ) → t < n → 0 < get_or old t 0 → get_or new t 0 ≡ get_or old t 0
  kept t l h = elim (adds t l) [ inl e ↦ e | inr e ↦ absurd (omega (arith, e.0)) ]

  still_least : AreLeastUpTo table n s depth new
  still_least t walk h l k =
      let r = state.least t walk h l k in
      let below = walk_ends_below t walk h in
      let e = kept t below r.0 in
      (omega (arith, r.0), omega (arith, r.1))
    where
      walk_ends_below : (t : ℕ) (walk : List ℕ) → IsWalk n (IsStepIn table n) s t walk → t < n
      walk_ends_below t [] h = absurd h
      walk_ends_below t (x ∷ w) h = ends_below n (IsStepIn table n) x t w h.1

  deeper : (t : ℕ) → t < n → get_or new t 0 ≤ depth + 1
  deeper t l = elim (adds t l) [ inl e ↦ let d = state.deepest t l in omega arith | inr e ↦ omega (arith, e.1) ]

  pub goes_deeper : found ≡ true → GoesTo table n s (depth + 1) new new_before
  goes_deeper e = record {
    sound = sound;
    walked = omega arith;
    deepest = deeper;
    least = least_one_more table n s depth new new_before sound start still_least looked depth state.walked still_least (λ v l h. h) deeper;
    spent = let a = finds.fewer e in let b = state.spent in omega arith;
  }

  pub goes_no_deeper : found ≡ false → AreLeastDepths table n s new
  goes_no_deeper e =
      least_of_all table n s depth new new_before sound start still_least looked state.walked
      (λ v l. subst (λ ds. get_or ds v 0 ≤ depth) (sym (finds.same e)) (state.deepest v l))

-- ---- the first depth

pub goes_to_first : (table : List Bool) (n s : ℕ) (depths before : List ℕ) → length depths ≡ n → length before ≡ n → AreFirst table n s n depths → GoesTo table n s 1 depths before
goes_to_first table n s depths before d b first = record {
  sound = record {
    depth_each = d;
    before_each = b;
    first = λ t l e. elim (first t l) [ inl h ↦ h.1 | inr h ↦ absurd (omega (arith, h.0)) ];
    later_below = λ t l e. absurd (none t l e);
    later_depth = λ t l e. absurd (none t l e);
    later_step = λ t l e. absurd (none t l e);
  };
  walked = omega arith;
  deepest = deepest;
  least = least;
  spent = omega (arith, count_by-le-length (λ x. eqb x 0) depths);
}
  where
    deepest : (t : ℕ) → t < n → get_or depths t 0 ≤ 1
    deepest t l = elim (first t l) [ inl h ↦ omega (arith, h.0) | inr h ↦ omega (arith, h.0) ]

    none : (t : ℕ) → t < n → ¬ (1 < get_or depths t 0)
    none t l h = let e = deepest t l in absurd (omega arith)

    least : AreLeastUpTo table n s 1 depths
    least t [] h l k = absurd h
    least t (x ∷ []) h l k = absurd (omega arith)
    least t (x ∷ y ∷ z ∷ w) h l k = absurd (omega arith)
    least t (x ∷ y ∷ []) h l k = elim (first t (ends_below n (IsStepIn table n) x t (y ∷ []) h.1)) [
      | inl e ↦ (omega (arith, e.0), omega (arith, e.0))
      | inr e ↦ absurd (e.1 (subst (λ a. IsStepIn table n a t) h.0 (subst (λ a. IsStepIn table n x a) h.1.2.1 h.1.1)))
    ]
