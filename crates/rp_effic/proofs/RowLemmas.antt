-- The weak steps of the level 1, listed row by row.
use Rattle.std.proofs.Common.{◌≡◌, ◌<◌, ◌≤◌, ◌+◌, ◌*◌, ◌++◌, [], ◌∷◌, inl, inr, ℕ, zero, suc, List, length, get_or, sym, ap, subst, ◌∙◌, arith}
use Rattle.std.proofs.Math.Nat.{le_of_mul-le-mul_left, mul-le-mul_left}
use Rattle.std.proofs.Math.Seq.{get_or-append_seam}
use Rattle.std.proofs.lemmas.Bool.{cases_eq, cases_lt}
use Rattle.std.proofs.lemmas.List.{get_or_append_left, length_push}
use Rattle.rp_evidence.specs.Preference.{IsLevel, IsWeakAt}
use Rattle.rp_pref.proofs.LevelOrder.{level_den}
use Rattle.rp_effic.specs.InnerWeakSteps.{AddsRow, AreWeakSteps, IsListed}

-- a step that is weak at some level is weak at 1
pub weak_at_one : (c : ℕ → ℕ → ℕ) (num den s t : ℕ) → IsLevel num den → IsWeakAt c num den s t → c s t ≤ c s s
weak_at_one c num den s t level h =
    let top : c s s * num ≤ c s s * den = mul-le-mul_left (c s s) level.1 in
    le_of_mul-le-mul_left {k = den} (omega (arith, h, top)) (level_den num den level)

module _ (m n : ℕ) (c : ℕ → ℕ → ℕ) (starts to new : List ℕ) (are : AreWeakSteps m n c starts to) (adds : AddsRow n c m n to new) where
  at_end : get_or (starts ++ length new ∷ []) (m + 1) 0 ≡ length new
  at_end = subst (λ p. get_or (starts ++ length new ∷ []) p 0 ≡ length new) are.start_each (get_or-append_seam starts (length new) [] 0)

  before : (s : ℕ) → s < m + 1 → get_or (starts ++ length new ∷ []) s 0 ≡ get_or starts s 0
  before s l = get_or_append_left starts (length new ∷ []) 0 s (omega (arith, are.start_each))

  one_row_more : AreWeakSteps (m + 1) n c (starts ++ length new ∷ []) new
  one_row_more = record {
    start_each = length_push starts (length new) ∙ ap (λ k. k + 1) are.start_each;
    ends = at_end;
    rows = rows;
    within = within;
    below = below;
    listed = listed;
    few = omega (arith, adds.few, are.few);
  }
    where
      last : get_or (starts ++ length new ∷ []) m 0 ≡ length to
      last = before m (omega arith) ∙ are.ends

      rows : (s : ℕ) → s < m + 1 → get_or (starts ++ length new ∷ []) s 0 ≤ get_or (starts ++ length new ∷ []) (s + 1) 0
      rows s l = elim (cases_eq s m) [
        | inl e ↦ subst (λ x. get_or (starts ++ length new ∷ []) x 0 ≤ get_or (starts ++ length new ∷ []) (x + 1) 0) (sym e) (omega (arith, last, at_end, adds.longer))
        | inr e ↦ omega (arith, before s l, before (s + 1) (omega arith), are.rows s (omega arith))
      ]

      within : (s : ℕ) → s ≤ m + 1 → get_or (starts ++ length new ∷ []) s 0 ≤ length new
      within s l = elim (cases_eq s (m + 1)) [
        | inl e ↦ subst (λ x. get_or (starts ++ length new ∷ []) x 0 ≤ length new) (sym e) (omega (arith, at_end))
        | inr e ↦ omega (arith, before s (omega arith), are.within s (omega arith), adds.longer)
      ]

      below : (p : ℕ) → p < length new → get_or new p 0 < n
      below p l = elim (cases_lt p (length to)) [
        | inl k ↦ subst (λ x. x < n) (sym (adds.kept p k)) (are.below p k)
        | inr k ↦ adds.below p k l
      ]

      listed : (s t : ℕ) → s < m + 1 → t < n → c s t ≤ c s s → IsListed (starts ++ length new ∷ []) new s t
      listed s t s_in t_in small none = elim (cases_eq s m) [
        | inl e ↦
            let h = adds.listed t t_in (subst (λ x. c x t ≤ c x x) e small) in
            let first : get_or (starts ++ length new ∷ []) s 0 ≡ length to = ap (λ x. get_or (starts ++ length new ∷ []) x 0) e ∙ last in
            let past : get_or (starts ++ length new ∷ []) (s + 1) 0 ≡ length new = ap (λ x. get_or (starts ++ length new ∷ []) (x + 1) 0) e ∙ at_end in
            none h.0 (omega (arith, first, h.1)) (omega (arith, past, h.2)) h.3
        | inr e ↦
            are.listed s t (omega arith) t_in small (λ p a b k.
            let inside : p < length to = omega (arith, b, are.within (s + 1) (omega arith)) in
            none p (omega (arith, before s s_in, a)) (omega (arith, before (s + 1) (omega arith), b)) (adds.kept p inside ∙ k))
      ]

  pub row_kept : (end : ℕ) (all : List ℕ) → all ≡ starts ++ end ∷ [] → end ≡ length new → AreWeakSteps (m + 1) n c all new
  row_kept end all is e = subst (λ xs. AreWeakSteps (m + 1) n c xs new) (sym (is ∙ ap (λ x. starts ++ x ∷ []) e)) one_row_more
