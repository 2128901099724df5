-- Whether a list is that of the marked observations.
use Rattle.std.proofs.Common.{eqb, Bool, IsTrue, slice_index, ◌≡◌, ◌<◌, ◌≤◌, ◌+◌, ◌⊎◌, ◌↔◌, ℕ, List, length, inl, inr, sym, subst, ◌∙◌, arith}
use Rattle.std.proofs.lemmas.Bool.{cases_eq, cases_lt, eq-eqb, eqb-true}
use Rattle.std.proofs.lemmas.List.{get_or_default}
use Rattle.rp_evidence.specs.Enumeration.{Enumerates}
use Rattle.rp_evidence.proofs.Enumerations.{rises}
use Rattle.rp_evidence.specs.Marks.{IsMarked}

-- The first entries are the marked observations below t.
pub record ListsUpTo (marks : List Bool) (list : List ℕ) (at t : ℕ) : Type 0 where
  pub within : at ≤ length list
  pub before : (k : ℕ) → k < at → slice_index list k < t
  pub marked : (k : ℕ) → k < at → IsMarked marks (slice_index list k)
  pub rising : (k : ℕ) → k + 1 < at → slice_index list k < slice_index list (k + 1)
  pub found : (u : ℕ) → u < t → IsMarked marks u → (k : ℕ) × (k < at) × (slice_index list k ≡ u)

module _ (marks : List Bool) (list : List ℕ) where
  module _ (at t : ℕ) (so_far : ListsUpTo marks list at t) where
    pub up_to_past : ¬ IsMarked marks t → ListsUpTo marks list at (t + 1)
    up_to_past none = record {
      within = so_far.within;
      before = λ k l. let h = so_far.before k l in omega (arith, h);
      marked = so_far.marked;
      rising = so_far.rising;
      found = λ u l m. elim (cases_eq u t) [
        | inl e ↦ absurd (none (subst (λ z. IsMarked marks z) e m))
        | inr d ↦ so_far.found u (omega arith) m
      ];
    }

    pub up_to_more : at < length list → slice_index list at ≡ t → IsMarked marks t → ListsUpTo marks list (at + 1) (t + 1)
    up_to_more l e m = record {
      within = omega arith;
      before = λ k a. elim (cases_eq k at) [
        | inl q ↦ subst (λ z. slice_index list z < t + 1) (sym q) (omega (arith, e))
        | inr d ↦ (let h = so_far.before k (omega arith) in omega (arith, h))
      ];
      marked = λ k a. elim (cases_eq k at) [
        | inl q ↦ subst (λ z. IsMarked marks (slice_index list z)) (sym q) (subst (λ z. IsMarked marks z) (sym e) m)
        | inr d ↦ so_far.marked k (omega arith)
      ];
      rising = λ k a. elim (cases_eq (k + 1) at) [
        | inl q ↦ subst (λ z. slice_index list k < slice_index list z) (sym q) (subst (λ z. slice_index list k < z) (sym e) (so_far.before k (omega arith)))
        | inr d ↦ so_far.rising k (omega arith)
      ];
      found = λ u a b. elim (cases_eq u t) [
        | inl q ↦ (at, omega arith, e ∙ sym q)
        | inr d ↦ (let h = so_far.found u (omega arith) b in (h.0, omega (arith, h.1), h.2))
      ];
    }

    -- the list has another entry where t should stand, or has ended
    pub not_at : (n : ℕ) → t < n → IsMarked marks t → (length list ≤ at) ⊎ (¬ (slice_index list at ≡ t)) → ¬ Enumerates n (IsMarked marks) list
    not_at n t_in m other lists =
        let c = (lists.just_these t).1 (t_in, m) in
        let here : slice_index list c.0 ≡ t = get_or_default list c.0 0 t c.1 ∙ c.2 in
        let late : at ≤ c.0 = elim (cases_lt c.0 at) [ inl l ↦ (let h = so_far.before c.0 l in absurd (omega (arith, h, here))) | inr g ↦ g ] in
        elim other [
          | inl ended ↦ absurd (omega (arith, c.1, late))
          | inr differs ↦ elim (cases_eq c.0 at) [
            | inl e ↦ differs (subst (λ z. slice_index list z ≡ t) e here)
            | inr d ↦ absurd (too_early n lists at (omega (arith, c.1, late)) (omega arith) (subst (λ z. slice_index list at < z) here (rises list lists.rising at c.0 (omega arith) c.1)))
          ]
        ]
      where
        too_early : (n : ℕ) → Enumerates n (IsMarked marks) list → (k : ℕ) → k < length list → at ≤ k → ¬ (slice_index list k < t)
        too_early n lists k l g less =
            let p = (lists.just_these (slice_index list k)).0 (k, l, get_or_default list k (slice_index list k) 0 l) in
            let f = so_far.found (slice_index list k) less p.1 in
            let r = rises list lists.rising f.0 k (omega (arith, f.1)) l in
            omega (arith, r, f.2)

    -- all marked observations were found, and the list goes on
    pub not_more : at < length list → ¬ Enumerates t (IsMarked marks) list
    not_more l lists =
        let p = (lists.just_these (slice_index list at)).0 (at, l, get_or_default list at (slice_index list at) 0 l) in
        let f = so_far.found (slice_index list at) p.0 p.1 in
        let r = rises list lists.rising f.0 at f.1 l in
        omega (arith, r, f.2)

    pub up_to_end : at ≡ length list → Enumerates t (IsMarked marks) list
    up_to_end e = record {
      rising = λ k l. so_far.rising k (omega (arith, l, e));
      just_these = λ u. (
        (λ c.
            let l : c.0 < at = omega (arith, c.1, e) in
            let q : slice_index list c.0 ≡ u = get_or_default list c.0 0 u c.1 ∙ c.2 in
            (subst (λ z. z < t) q (so_far.before c.0 l), subst (λ z. IsMarked marks z) q (so_far.marked c.0 l))),
        (λ h.
            let f = so_far.found u h.0 h.1 in
            let l : f.0 < length list = omega (arith, f.1, e) in
            (f.0, l, get_or_default list f.0 u 0 l ∙ f.2)),
      );
    }

    pub listed_exactly : (b : Bool) → b ≡ eqb at (length list) → IsTrue b ↔ Enumerates t (IsMarked marks) list
    listed_exactly b e = elim (cases_eq at (length list)) [
      | inl q ↦ ((λ h. up_to_end q), (λ h. e ∙ eq-eqb at (length list) q))
      | inr d ↦ (
        (λ h. absurd (d (eqb-true at (length list) (sym e ∙ h)))),
        (λ h. absurd (not_more (let w = so_far.within in omega (arith, w, d)) h)),
      )
    ]
