-- How portions are rounded up, one by one.
use Rattle.std.proofs.Common.{◌≡◌, ◌≢◌, ℕ, zero, suc, ◌+◌, ◌<◌, ◌≤◌, ◌==◌, ◌⊎◌, inl, inr, Bool, true, false, List, length, refl, sym, ap, subst, ◌∙◌, arith, if◌then◌else◌, set, get_or-set_same, get_or-set_other, length-set}
use Rattle.std.proofs.lemmas.Bool.{cases_eq, eq-eqb, ne_eqb, false≢true}
use Rattle.rp_table.specs.Sums.{sum_below}
use Rattle.rp_table.proofs.SumsBelow.{sum_below-same}
use Rattle.rp_patch.specs.InnerPortions.{AreSamePortions, IsAhead, IsLeft, IsRoundedUpBy, RoundsUpFirst, portion_at, portions_on, rounded_up_on}
use Rattle.rp_patch.specs.declared.portion.Portion.{Portion}

-- one term is one more
pub sum_one_more : (f g : ℕ → ℕ) (n b : ℕ) → b < n → g b ≡ f b + 1 → ((i : ℕ) → i ≢ b → g i ≡ f i) → sum_below n g ≡ sum_below n f + 1
sum_one_more f g zero b within more same = absurd (omega arith)
sum_one_more f g (suc n) b within more same = elim (cases_eq n b) [
  | inl e ↦
      let before : sum_below n g ≡ sum_below n f = sum_below-same g f n (λ i l. same i (λ is. omega (arith, is, e, l))) in
      let here : g n ≡ f n + 1 = ap g e ∙ more ∙ ap (λ k. f k + 1) (sym e) in
      omega (arith, before, here)
  | inr d ↦ omega (arith, sum_one_more f g n b (omega (arith, d)) more same, same n d)
]

-- one portion is rounded up: the others stay
pub record RoundsUpOne (now new : List Portion) (best : ℕ) : Type 0 where
  pub count : length new ≡ length now
  pub group : (portion_at new best).group ≡ (portion_at now best).group
  pub whole : (portion_at new best).whole ≡ (portion_at now best).whole
  pub rest : (portion_at new best).rest ≡ (portion_at now best).rest
  pub rounded_up : (portion_at new best).rounded_up ≡ true
  pub others : (i : ℕ) → i ≢ best → portion_at new i ≡ portion_at now i

module _ (now new : List Portion) (best : ℕ) (one : RoundsUpOne now new best) where
  same_by : {A : Type 0} (f : Portion → A) → f (portion_at new best) ≡ f (portion_at now best) → (i : ℕ) → f (portion_at new i) ≡ f (portion_at now i)
  same_by f at_best i = elim (cases_eq i best) [
    | inl e ↦ subst (λ k. f (portion_at new k) ≡ f (portion_at now k)) (sym e) at_best
    | inr d ↦ ap f (one.others i d)
  ]

  pub same_portions : AreSamePortions now new
  same_portions = record {
    count = one.count;
    group = same_by (λ portion. portion.group) one.group;
    whole = same_by (λ portion. portion.whole) one.whole;
    rest = same_by (λ portion. portion.rest) one.rest;
  }

  still_ahead : (h i : ℕ) → IsAhead now h i → IsAhead new h i
  still_ahead h i (inl l) = inl (rw (same_portions.rest h, same_portions.rest i) l)
  still_ahead h i (inr l) = inr (same_portions.rest h ∙ l.0 ∙ sym (same_portions.rest i), l.1)

  pub more_rounded_up : (j : ℕ) → best < length now → IsLeft now j best → rounded_up_on new j ≡ rounded_up_on now j + 1
  more_rounded_up j within left =
      let group : (portion_at new best).group ≡ j = one.group ∙ left.0 in
      let there : ◌≡◌ {A = ℕ} (if (portion_at new best).group == j then (if (portion_at new best).rounded_up then 1 else 0) else 0) 1 =
      ap (λ b. if b then (if (portion_at new best).rounded_up then 1 else 0) else 0) (eq-eqb _ j group) ∙ ap (λ b. if b then 1 else 0) one.rounded_up in
      let before : ◌≡◌ {A = ℕ} (if (portion_at now best).group == j then (if (portion_at now best).rounded_up then 1 else 0) else 0) 0 =
      ap (λ b. if b then (if (portion_at now best).rounded_up then 1 else 0) else 0) (eq-eqb _ j left.0) ∙ ap (λ b. if b then 1 else 0) left.1 in
      ap (λ n. sum_below n (λ i. if (portion_at new i).group == j then (if (portion_at new i).rounded_up then 1 else 0) else 0)) one.count
      ∙ sum_one_more (λ i. if (portion_at now i).group == j then (if (portion_at now i).rounded_up then 1 else 0) else 0)
      (λ i. if (portion_at new i).group == j then (if (portion_at new i).rounded_up then 1 else 0) else 0) (length now) best within (omega (arith, there, before))
      (λ i d. ap (λ (p : Portion). if p.group == j then (if p.rounded_up then 1 else 0) else 0) (one.others i d))

  pub rounds_up_first : (j : ℕ) → RoundsUpFirst now → best < length now → IsLeft now j best
      → ((i : ℕ) → i < length now → IsLeft now j i → i ≢ best → IsAhead now best i) → RoundsUpFirst new
  rounds_up_first j first within left ahead = λ h i h_in i_in same up down. by h i h_in i_in same up down (cases_eq h best)
    where
      by : (h i : ℕ) → h < length new → i < length new → (portion_at new h).group ≡ (portion_at new i).group
          → (portion_at new h).rounded_up ≡ true → (portion_at new i).rounded_up ≡ false → (h ≡ best) ⊎ (¬ (h ≡ best)) → IsAhead new h i
      by h i h_in i_in same up down (inl e) =
          let apart : i ≢ best = λ is. false≢true (sym down ∙ ap (λ k. (portion_at new k).rounded_up) is ∙ one.rounded_up) in
          let on : (portion_at now i).group ≡ j = sym (same_portions.group i) ∙ sym same ∙ ap (λ k. (portion_at new k).group) e ∙ one.group ∙ left.0 in
          let not_up : (portion_at now i).rounded_up ≡ false = sym (ap (λ (p : Portion). p.rounded_up) (one.others i apart)) ∙ down in
          subst (λ k. IsAhead new k i) (sym e) (still_ahead best i (ahead i (omega (arith, i_in, one.count)) (on, not_up) apart))
      by h i h_in i_in same up down (inr d) =
          let apart : i ≢ best = λ is. false≢true (sym down ∙ ap (λ k. (portion_at new k).rounded_up) is ∙ one.rounded_up) in
          still_ahead h i (first h i (omega (arith, h_in, one.count)) (omega (arith, i_in, one.count))
          (sym (same_portions.group h) ∙ same ∙ same_portions.group i)
          (sym (ap (λ (p : Portion). p.rounded_up) (one.others h d)) ∙ up) (sym (ap (λ (p : Portion). p.rounded_up) (one.others i apart)) ∙ down))

pub then_same : (old now new : List Portion) → AreSamePortions old now → AreSamePortions now new → AreSamePortions old new
then_same old now new first second = record {
  count = second.count ∙ first.count;
  group = λ i. second.group i ∙ first.group i;
  whole = λ i. second.whole i ∙ first.whole i;
  rest = λ i. second.rest i ∙ first.rest i;
}

pub one_more_rounded_up : (old now new : List Portion) (j k best : ℕ) → IsRoundedUpBy old now j k → RoundsUpOne now new best → best < length now → IsLeft now j best
    → ((i : ℕ) → i < length now → IsLeft now j i → i ≢ best → IsAhead now best i) → IsRoundedUpBy old new j (k + 1)
one_more_rounded_up old now new j k best so_far one within left ahead = record {
  same = then_same old now new so_far.same (same_portions now new best one);
  first = rounds_up_first now new best one j so_far.first within left ahead;
  many_rounded_up = more_rounded_up now new best one j within left ∙ ap (λ n. n + 1) so_far.many_rounded_up;
  others = λ i apart. ap (λ (p : Portion). p.rounded_up) (one.others i (λ is. apart (sym (so_far.same.group i) ∙ ap (λ b. (portion_at now b).group) is ∙ left.0))) ∙ so_far.others i apart;
}

-- where none is left, all are rounded up
pub all_rounded_up : (now : List Portion) (j : ℕ) → ((i : ℕ) → i < length now → ¬ IsLeft now j i) → rounded_up_on now j ≡ portions_on now j
all_rounded_up now j none = sum_below-same _ _ (length now) (λ i within. by (portion_at now i) (none i within) (cases_eq (portion_at now i).group j))
  where
    up : (b : Bool) → (¬ (b ≡ false)) → ◌≡◌ {A = ℕ} (if b then 1 else 0) 1
    up true n = refl
    up false n = absurd (n refl)

    by : (p : Portion) → (¬ ((p.group ≡ j) × (p.rounded_up ≡ false))) → (p.group ≡ j) ⊎ (¬ (p.group ≡ j))
        → ◌≡◌ {A = ℕ} (if p.group == j then (if p.rounded_up then 1 else 0) else 0) (if p.group == j then 1 else 0)
    by p none (inl e) = let on = eq-eqb p.group j e in
        ap (λ b. if b then (if p.rounded_up then 1 else 0) else 0) on ∙ up p.rounded_up (λ f. none (e, f)) ∙ ap (λ b. if b then 1 else 0) (sym on)
    by p none (inr d) = let off = ne_eqb p.group j d in
        ap (λ b. if b then (if p.rounded_up then 1 else 0) else 0) off ∙ ap (λ b. if b then 1 else 0) (sym off)

pub same_count : (old now : List Portion) (j : ℕ) → AreSamePortions old now → portions_on now j ≡ portions_on old j
same_count old now j same =
    ap (λ n. sum_below n (λ i. if (portion_at now i).group == j then 1 else 0)) same.count
    ∙ sum_below-same _ _ (length old) (λ i within. ap (λ k. if k == j then 1 else 0) (same.group i))

-- so one is left while too few are rounded up
pub some_left : (old now : List Portion) (j k many : ℕ) → IsRoundedUpBy old now j k → k < many → many ≤ portions_on old j → ¬ ((i : ℕ) → i < length now → ¬ IsLeft now j i)
some_left old now j k many so_far less enough none =
    omega (arith, all_rounded_up now j none, same_count old now j so_far.same, so_far.many_rounded_up, less, enough)

-- one portion of the list is written anew
pub by_set : (now : List Portion) (best : ℕ) (p : Portion) → best < length now
    → p.group ≡ (portion_at now best).group → p.whole ≡ (portion_at now best).whole → p.rest ≡ (portion_at now best).rest → p.rounded_up ≡ true
    → RoundsUpOne now (set now best p) best
by_set now best p within group whole rest rounded_up =
    let there : portion_at (set now best p) best ≡ p = get_or-set_same now best p _ within in record {
      count = length-set now best p;
      group = ap (λ (q : Portion). q.group) there ∙ group;
      whole = ap (λ (q : Portion). q.whole) there ∙ whole;
      rest = ap (λ (q : Portion). q.rest) there ∙ rest;
      rounded_up = ap (λ (q : Portion). q.rounded_up) there ∙ rounded_up;
      others = λ i apart. get_or-set_other now best i p _ apart;
    }
