-- Ratios that are collected row by row, and sorted.
use Rattle.std.proofs.Common.{◌≡◌, ◌<◌, ◌≤◌, ◌+◌, ◌*◌, ◌++◌, [], ◌∷◌, inl, inr, ℕ, false, List, length, length-append, get_or, refl, sym, ap, subst, ◌∙◌, arith, append_assoc}
use Rattle.std.proofs.Math.Nat.{lt_of_mul-lt-mul_left, mul-le-mul_left}
use Rattle.std.specs.Cmp.{IsTotalOrder, nat_cmp_is}
use Rattle.std.specs.List.{Any}
use Rattle.std.specs.List.Sorted.{IsPermutation, IsSorted}
use Rattle.std.specs.Ordering.{is_lt, nat_cmp}
use Rattle.std.specs.declared.cmp.Ordering.TheVariants.{Less}
use Rattle.std.proofs.lemmas.Bool.{cases_eq, cases_lt, false≢true}
use Rattle.std.proofs.lemmas.List.{get_or_append_left, length_push}
use Rattle.std.proofs.lemmas.List.Quantifiers.{Any-push}
use Rattle.std.proofs.lemmas.List.Sorted.{Contains-permutation, ranks_by, sorted_far}
use Rattle.rp_evidence.specs.Efficiency.{IsRatio}
use Rattle.rp_pref.proofs.LevelOrder.{cross_total, level_den}
use Rattle.rp_effic.specs.InnerBracket.{AddsBetween, AreBetween, HasHighest, HaveBetween, IsBetween, IsSeen}
use Rattle.rp_effic.specs.InnerRatioOrder.{cross_cmp}
use Rattle.rp_effic.specs.InnerRatios.{Rise}
use Rattle.rp_effic.specs.InnerWeakSteps.{AreWeakSteps}
use Rattle.rp_effic.specs.declared.bracket.Bracket.{Bracket}
use Rattle.rp_effic.specs.declared.ratio.Ratio.{Ratio}

pub any_left : (P : Ratio → Type 0) (xs ys : List Ratio) → Any P xs → Any P (xs ++ ys)
any_left P xs ys a =
    (a.0, a.1, omega (arith, a.2, length-append xs ys), get_or_append_left xs ys a.1 a.0 a.2 ∙ a.3, a.4)

-- ---- the steps of one observation

module _ (c : ℕ → ℕ → ℕ) (bracket : Bracket) (to : List ℕ) (s start place : ℕ) (old ratios : List Ratio) (so_far : AddsBetween c bracket to s start place old ratios) where
  pub seen_with : (r : Ratio) → r.num ≡ c s (get_or to place 0) → r.den ≡ c s s → AddsBetween c bracket to s start (place + 1) old (ratios ++ r ∷ [])
  seen_with r num den = record {
    longer = (so_far.longer.0 ++ r ∷ [], ap (λ xs. xs ++ r ∷ []) so_far.longer.1 ∙ append_assoc old so_far.longer.0 (r ∷ []));
    few = omega (arith, so_far.few, length_push ratios r);
    seen = seen;
  }
    where
      seen : (p : ℕ) → start ≤ p → p < place + 1 → IsSeen c bracket (ratios ++ r ∷ []) s (get_or to p 0)
      seen p a b between = elim (cases_eq p place) [
        | inl e ↦ subst (λ x. Any (λ r. IsRatio c r.num r.den s (get_or to x 0)) (ratios ++ r ∷ [])) (sym e)
            (Any-push (λ r. IsRatio c r.num r.den s (get_or to place 0)) ratios r (rw (num, den) (omega arith)))
        | inr apart ↦ any_left (λ r. IsRatio c r.num r.den s (get_or to p 0)) ratios (r ∷ []) (so_far.seen p a (omega arith) between)
      ]

  pub seen_without : ¬ IsBetween bracket (c s (get_or to place 0)) (c s s) → AddsBetween c bracket to s start (place + 1) old ratios
  seen_without none = record {
    longer = so_far.longer;
    few = omega (arith, so_far.few);
    seen = seen;
  }
    where
      seen : (p : ℕ) → start ≤ p → p < place + 1 → IsSeen c bracket ratios s (get_or to p 0)
      seen p a b between = elim (cases_eq p place) [
        | inl e ↦ absurd (none (subst (λ x. IsBetween bracket (c s (get_or to x 0)) (c s s)) e between))
        | inr apart ↦ so_far.seen p a (omega arith) between
      ]

pub ends_at : (c : ℕ → ℕ → ℕ) (bracket : Bracket) (to : List ℕ) (s start place end : ℕ) (old new : List Ratio) → AddsBetween c bracket to s start place old new → place ≡ end → AddsBetween c bracket to s start end old new
ends_at c bracket to s start place end old new adds same = subst (λ p. AddsBetween c bracket to s start p old new) same adds

-- ---- the steps of one observation after another

pub highest_alone : (c : ℕ → ℕ → ℕ) (bracket : Bracket) (starts to : List ℕ) (ratios : List Ratio) → ratios ≡ [] ++ bracket.high ∷ [] → HaveBetween 0 c bracket starts to ratios
highest_alone c bracket starts to ratios is = record {
  seen = λ s p l a b. absurd (omega arith);
  highest = subst (λ xs. HasHighest bracket xs) (sym is) (Any-push (λ (r : Ratio). (r.num ≡ bracket.high.num) × (r.den ≡ bracket.high.den)) [] bracket.high (refl, refl));
  few = omega (arith, ap (λ xs. length xs) is, length_push [] bracket.high);
}

module _ (m : ℕ) (c : ℕ → ℕ → ℕ) (bracket : Bracket) (starts to : List ℕ) (old new : List Ratio) (so_far : HaveBetween m c bracket starts to old) (adds : AddsBetween c bracket to m (get_or starts m 0) (get_or starts (m + 1) 0) old new) where
  on : (P : Ratio → Type 0) → Any P old → Any P new
  on P a = subst (λ xs. Any P xs) (sym adds.longer.1) (any_left P old adds.longer.0 a)

  pub row_seen : HaveBetween (m + 1) c bracket starts to new
  row_seen = record {
    seen = seen;
    highest = on (λ r. (r.num ≡ bracket.high.num) × (r.den ≡ bracket.high.den)) so_far.highest;
    few = omega (arith, adds.few, so_far.few);
  }
    where
      seen : (s p : ℕ) → s < m + 1 → get_or starts s 0 ≤ p → p < get_or starts (s + 1) 0 → IsSeen c bracket new s (get_or to p 0)
      seen s p l a b = elim (cases_eq s m) [
        | inl e ↦ subst (λ x. IsSeen c bracket new x (get_or to p 0)) (sym e)
            (adds.seen p (subst (λ x. get_or starts x 0 ≤ p) e a) (subst (λ x. p < get_or starts (x + 1) 0) e b))
        | inr e ↦ λ between. on (λ r. IsRatio c r.num r.den s (get_or to p 0)) (so_far.seen s p (omega arith) a b between)
      ]

pub all_seen : (n : ℕ) (c : ℕ → ℕ → ℕ) (bracket : Bracket) (starts to : List ℕ) (ratios : List Ratio) → AreWeakSteps n n c starts to → HaveBetween n c bracket starts to ratios → AreBetween n c bracket ratios
all_seen n c bracket starts to ratios steps have = record { complete = complete; highest = have.highest }
  where
    complete : (s t : ℕ) → s < n → t < n → IsBetween bracket (c s t) (c s s) → ¬ ¬ Any (λ r. IsRatio c r.num r.den s t) ratios
    complete s t s_in t_in between none =
        let top : c s s * bracket.high.num ≤ c s s * bracket.high.den = mul-le-mul_left (c s s) bracket.high.level.1 in
        let small : c s t < c s s = lt_of_mul-lt-mul_left bracket.high.den (omega (arith, between.1, top)) in
        steps.listed s t s_in t_in (omega arith) (λ p a b e.
        none (subst (λ x. Any (λ r. IsRatio c r.num r.den s x) ratios) e
        (have.seen s p s_in a b (subst (λ x. IsBetween bracket (c s x) (c s s)) (sym e) between))))

-- ---- sorted

pub any_moved : (P : Ratio → Type 0) (collected sorted : List Ratio) → IsPermutation collected sorted → Any P collected → Any P sorted
any_moved P collected sorted moved a =
    let found = Contains-permutation collected sorted a.1 moved (a.0, a.2, a.3) in
    (found.0, a.1, found.1, found.2, a.4)

pub between_moved : (n : ℕ) (c : ℕ → ℕ → ℕ) (bracket : Bracket) (collected sorted : List Ratio) → IsPermutation collected sorted → AreBetween n c bracket collected → AreBetween n c bracket sorted
between_moved n c bracket collected sorted moved are = record {
  complete = λ s t s_in t_in between none. are.complete s t s_in t_in between (λ a. none (any_moved (λ r. IsRatio c r.num r.den s t) collected sorted moved a));
  highest = any_moved (λ r. (r.num ≡ bracket.high.num) × (r.den ≡ bracket.high.den)) collected sorted moved are.highest;
}

order_total : IsTotalOrder (cross_cmp (λ (r : Ratio). r.num) (λ r. r.den))
order_total = cross_total (λ (r : Ratio). r.num) (λ r. r.den) (λ r. level_den r.num r.den r.level)

not_less : (a b : ℕ) → is_lt (nat_cmp a b) ≡ false → b ≤ a
not_less a b h = elim (cases_lt a b) [
  | inl less ↦ absurd (false≢true (sym h ∙ ap is_lt (sym (nat_cmp_is a b Less less))))
  | inr most ↦ most
]

pub sorted_rise : (sorted : List Ratio) → IsSorted (cross_cmp (λ (r : Ratio). r.num) (λ r. r.den)) sorted → Rise sorted
sorted_rise sorted up i j d l within =
    not_less ((get_or sorted j d).num * (get_or sorted i d).den) ((get_or sorted i d).num * (get_or sorted j d).den)
    (sorted_far (λ (x y : Ratio). is_lt (cross_cmp (λ r. r.num) (λ r. r.den) x y)) (ranks_by order_total (λ (r : Ratio). r)) sorted up i j d (omega arith) within)
