-- The groups one by one: all of the total is given on each.
use Rattle.std.proofs.Common.{◌≡◌, ◌≢◌, ℕ, zero, suc, ◌+◌, ◌-◌, ◌≤◌, ◌==◌, ◌⊎◌, inl, inr, false, List, length, refl, sym, ap, ◌∙◌, arith, below_more, if◌then◌else◌}
use Rattle.std.proofs.lemmas.Bool.{cases_eq, eq-eqb, ne_eqb}
use Rattle.rp_table.specs.Sums.{sum_below}
use Rattle.rp_table.proofs.SumsBelow.{sum_below-same}
use Rattle.rp_patch.specs.InnerPortions.{AreRoundedUpBelow, AreSamePortions, IsRoundedUpBy, portion_at, rounded_up_on, whole_on}
use Rattle.rp_patch.specs.declared.portion.Portion.{Portion}
use Rattle.rp_patch.proofs.RoundedUpPortions.{then_same}

pub sum_zero : (f : ℕ → ℕ) (n : ℕ) → ((i : ℕ) → f i ≡ 0) → sum_below n f ≡ 0
sum_zero f zero none = refl
sum_zero f (suc n) none = omega (arith, sum_zero f n none, none n)

pub same_whole : (old now : List Portion) (j : ℕ) → AreSamePortions old now → whole_on now j ≡ whole_on old j
same_whole old now j same =
    ap (λ n. sum_below n (λ i. if (portion_at now i).group == j then (portion_at now i).whole else 0)) same.count
    ∙ sum_below-same _ _ (length old) (λ i within. (λ k. if (same.group i k) == j then same.whole i k else 0))

-- none is rounded up of a group
pub none_rounded_up_on : (now : List Portion) (j : ℕ) → ((i : ℕ) → j ≤ (portion_at now i).group → (portion_at now i).rounded_up ≡ false) → rounded_up_on now j ≡ 0
none_rounded_up_on now j later = sum_zero _ (length now) (λ i. by (portion_at now i) (later i) (cases_eq (portion_at now i).group j))
  where
    by : (p : Portion) → (j ≤ p.group → p.rounded_up ≡ false) → (p.group ≡ j) ⊎ (¬ (p.group ≡ j)) → ◌≡◌ {A = ℕ} (if p.group == j then (if p.rounded_up then 1 else 0) else 0) 0
    by p down (inl e) = ap (λ b. if b then (if p.rounded_up then 1 else 0) else 0) (eq-eqb p.group j e) ∙ ap (λ b. if b then 1 else 0) (down (omega (arith, e)))
    by p down (inr d) = ap (λ b. if b then (if p.rounded_up then 1 else 0) else 0) (ne_eqb p.group j d)

-- what is rounded up of another group stays
other_rounded_up : (now new : List Portion) (j k many : ℕ) → IsRoundedUpBy now new j many → k ≢ j → rounded_up_on new k ≡ rounded_up_on now k
other_rounded_up now new j k many more apart =
    ap (λ n. sum_below n (λ i. if (portion_at new i).group == k then (if (portion_at new i).rounded_up then 1 else 0) else 0)) more.same.count
    ∙ sum_below-same _ _ (length now) (λ i within. by (portion_at now i) (portion_at new i) (more.same.group i) (more.others i) (cases_eq (portion_at now i).group k))
  where
    by : (p q : Portion) → q.group ≡ p.group → (p.group ≢ j → q.rounded_up ≡ p.rounded_up) → (p.group ≡ k) ⊎ (¬ (p.group ≡ k))
        → ◌≡◌ {A = ℕ} (if q.group == k then (if q.rounded_up then 1 else 0) else 0) (if p.group == k then (if p.rounded_up then 1 else 0) else 0)
    by p q same kept (inl e) = λ i. if (same i) == k then (if (kept (λ is. apart (sym e ∙ is)) i) then 1 else 0) else 0
    by p q same kept (inr d) =
        ap (λ b. if b then (if q.rounded_up then 1 else 0) else 0) (ne_eqb q.group k (λ is. d (sym same ∙ is)))
        ∙ sym (ap (λ b. if b then (if p.rounded_up then 1 else 0) else 0) (ne_eqb p.group k d))

pub one_more_given : (old now new : List Portion) (j total many : ℕ) → AreRoundedUpBelow old now j total → IsRoundedUpBy now new j many
    → whole_on now j ≤ total → many ≡ total - whole_on now j → AreRoundedUpBelow old new (j + 1) total
one_more_given old now new j total many so_far more within is = record {
  same = then_same old now new so_far.same more.same;
  first = more.first;
  given = below_more (λ k. whole_on new k + rounded_up_on new k ≡ total) j
      (λ k below. omega (arith, so_far.given k below, same_whole now new k more.same, other_rounded_up now new j k many more (λ e. omega (arith, e, below))))
      (omega (arith, same_whole now new j more.same, more.many_rounded_up, is, within));
  later = λ i above. more.others i (λ e. omega (arith, e, more.same.group i, above)) ∙ so_far.later i (omega (arith, more.same.group i, above));
}
