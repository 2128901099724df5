-- What every tableau of a run keeps, as one record (`IsSound`): each row is the combination of the first tableau's rows
-- that its slack entries name (`combined`); each row of the first tableau is the combination of the present rows that
-- its basic columns name (`recovered`); the basic columns are unit columns (`unit`); every row but the objective is
-- lexicographically positive (`rows_positive`). The first tableau has it (`first_sound`), and a pivot keeps it
-- (`PivotSound.pivot_sound`). The unit columns show that two rows never tie: the basic column of one is clear in the
-- other (`Steps.no_tie`). So the strict choice of a leaving row always exists, and each other row stays positive.
-- Another rule for that choice has to keep `rows_positive`; for the entering column any with a negative objective entry
-- serves.
use Rattle.std.proofs.Common.{◌≡◌, ℕ, zero, suc, ◌<◌, ◌≤◌, ℤ, pos, negsuc, ◌+ℤ◌, ◌*ℤ◌, ◌<ℤ◌, ◌≤ℤ◌, ◌⊎◌, ltb, true, inl, inr, refl, sym, ◌∙◌, ap, subst, arith}
use Rattle.std.proofs.lemmas.Int.{ints}
use Rattle.std.proofs.lemmas.Bool.{cases_lt, lt-ltb}
use Rattle.rp_farkas.specs.Total.{total}
use Rattle.rp_farkas.specs.LinearProgram.{LinearProgram}
use Rattle.rp_farkas.specs.Limits.{IsWithinLimits}
use Rattle.rp_farkas.proofs.Totals.{total-same}
use Rattle.rp_simplex.specs.ExactTableau.{ExactTableau, width_of}
use Rattle.rp_simplex.specs.FirstTableau.{IsFirstTableau, first_entry}
use Rattle.rp_simplex.specs.Lexicographic.{IsLexLess}
use Rattle.rp_simplex.specs.InnerCombined.{delta}
use Rattle.rp_simplex.proofs.Linear.{delta-same, delta-other, total-delta, total-delta_past}

pub record IsSound (p : LinearProgram) (t : ExactTableau) : Type 0 where
  pub den_positive : 0 < t.den
  -- each row is the combination of the first tableau's rows that its slack entries name
  pub combined : (i k : ℕ) → i ≤ p.rows → k < width_of p
      → t.at i k ≡ total p.rows (λ s. t.at i (suc s) *ℤ first_entry p s k) +ℤ (delta p.rows i *ℤ (pos t.den *ℤ first_entry p p.rows k))
  -- and each of the first tableau's rows is the combination of these rows that its basic columns name
  pub recovered : (s k : ℕ) → s ≤ p.rows → k < width_of p
      → pos t.den *ℤ first_entry p s k ≡ total p.rows (λ i. first_entry p s (t.basis i) *ℤ t.at i k) +ℤ (delta p.rows s *ℤ t.at p.rows k)
  pub unit : (i k : ℕ) → i ≤ p.rows → k < p.rows → t.at i (t.basis k) ≡ delta i k *ℤ pos t.den
  pub basis_after : (i : ℕ) → i < p.rows → 1 ≤ t.basis i
  pub basis_within : (i : ℕ) → i < p.rows → t.basis i < width_of p
  pub rows_positive : (i : ℕ) → i < p.rows → IsLexLess (width_of p) (λ _. pos 0) (t.at i)

-- ---- the first tableau
pub first-slack : (p : LinearProgram) (i k : ℕ) → k < p.rows → first_entry p i (suc k) ≡ delta i k
first-slack p i k l = let yes : ltb k p.rows ≡ true = lt-ltb k p.rows l in rw yes refl

pub first-right : (p : LinearProgram) (i : ℕ) → i < p.rows → first_entry p i 0 ≡ p.b i
first-right p i l = let yes : ltb i p.rows ≡ true = lt-ltb i p.rows l in rw yes refl

one_times : (d : ℕ) (z : ℤ) → d ≡ 1 → pos d *ℤ z ≡ z
one_times d z e = ap (λ n. pos n *ℤ z) e ∙ omega (arith, ints)

times_one : (z : ℤ) (d : ℕ) → d ≡ 1 → z ≡ z *ℤ pos d
times_one z d e = sym (ap (λ n. z *ℤ pos n) e ∙ omega (arith, ints))

no_more : (s z d x : ℤ) → s ≡ z → d ≡ pos 0 → s +ℤ (d *ℤ x) ≡ z
no_more s z d x a b = ap (λ y. s +ℤ (y *ℤ x)) b ∙ omega (arith, ints)

all_more : (s d x : ℤ) → s ≡ pos 0 → d ≡ pos 1 → s +ℤ (d *ℤ x) ≡ x
all_more s d x a b = ap (λ y. s +ℤ (y *ℤ x)) b ∙ ap (λ y. y +ℤ (pos 1 *ℤ x)) a ∙ omega (arith, ints)

-- the place i picked among the places up to n
pub pick : (n i : ℕ) (f : ℕ → ℤ) → i ≤ n → total n (λ s. delta i s *ℤ f s) +ℤ (delta n i *ℤ f n) ≡ f i
pick n i f l = elim (cases_lt i n) [
  | inl below ↦ no_more (total n (λ s. delta i s *ℤ f s)) (f i) (delta n i) (f n) (total-delta n i f below) (delta-other n i (omega arith))
  | inr past ↦
      let same : i ≡ n = omega arith in
      subst (λ k. total n (λ s. delta k s *ℤ f s) +ℤ (delta n k *ℤ f n) ≡ f k) (sym same)
      (all_more (total n (λ s. delta n s *ℤ f s)) (delta n n) (f n) (total-delta_past n n f (omega arith)) (delta-same n))
]

pub sign_cases : (z : ℤ) → pos 0 ≤ℤ z → (z ≡ pos 0) ⊎ (pos 0 <ℤ z)
sign_cases (pos zero) h = inl refl
sign_cases (pos (suc n)) h = inr (omega (arith, ints))
sign_cases (negsuc n) h = absurd (omega (arith, ints))

module _ (p : LinearProgram) (t : ExactTableau) (first : IsFirstTableau p t) where
  slack : (i k : ℕ) → i ≤ p.rows → k < p.rows → t.at i (suc k) ≡ delta i k
  slack i k hi hk = first.entries i (suc k) hi (omega arith) ∙ first-slack p i k hk

  combined : (i k : ℕ) → i ≤ p.rows → k < width_of p
      → t.at i k ≡ total p.rows (λ s. t.at i (suc s) *ℤ first_entry p s k) +ℤ (delta p.rows i *ℤ (pos t.den *ℤ first_entry p p.rows k))
  combined i k hi hk = first.entries i k hi hk
      ∙ sym (ap (λ z. z +ℤ (delta p.rows i *ℤ (pos t.den *ℤ first_entry p p.rows k)))
      (total-same p.rows (λ s. t.at i (suc s) *ℤ first_entry p s k) (λ s. delta i s *ℤ first_entry p s k) (λ s hs. ap (λ z. z *ℤ first_entry p s k) (slack i s hi hs)))
      ∙ ap (λ z. total p.rows (λ s. delta i s *ℤ first_entry p s k) +ℤ (delta p.rows i *ℤ z)) (one_times t.den (first_entry p p.rows k) first.over_one)
      ∙ pick p.rows i (λ s. first_entry p s k) hi)

  recovered : (s k : ℕ) → s ≤ p.rows → k < width_of p
      → pos t.den *ℤ first_entry p s k ≡ total p.rows (λ i. first_entry p s (t.basis i) *ℤ t.at i k) +ℤ (delta p.rows s *ℤ t.at p.rows k)
  recovered s k hs hk = one_times t.den (first_entry p s k) first.over_one
      ∙ sym (ap (λ z. z +ℤ (delta p.rows s *ℤ t.at p.rows k))
      (total-same p.rows (λ i. first_entry p s (t.basis i) *ℤ t.at i k) (λ i. delta s i *ℤ first_entry p i k) (λ i hi.
      ap (λ b. first_entry p s b *ℤ t.at i k) (first.slacks i hi)
      ∙ ap (λ z. z *ℤ t.at i k) (first-slack p s i hi)
      ∙ ap (λ z. delta s i *ℤ z) (first.entries i k (omega arith) hk)))
      ∙ ap (λ z. total p.rows (λ i. delta s i *ℤ first_entry p i k) +ℤ (delta p.rows s *ℤ z)) (first.entries p.rows k (omega arith) hk)
      ∙ pick p.rows s (λ i. first_entry p i k) hs)

  unit : (i k : ℕ) → i ≤ p.rows → k < p.rows → t.at i (t.basis k) ≡ delta i k *ℤ pos t.den
  unit i k hi hk = ap (t.at i) (first.slacks k hk) ∙ slack i k hi hk ∙ times_one (delta i k) t.den first.over_one

  before_slack : {i : ℕ} → i < p.rows → t.at i 0 ≡ pos 0 → (k : ℕ) → k < suc i → pos 0 ≡ t.at i k
  before_slack hi none zero h = sym none
  before_slack {i} hi none (suc k) h = sym (slack i k (omega arith) (omega arith) ∙ delta-other i k (omega arith))

  rows_positive : IsWithinLimits p → (i : ℕ) → i < p.rows → IsLexLess (width_of p) (λ _. pos 0) (t.at i)
  rows_positive limits i hi =
      let right : t.at i 0 ≡ p.b i = first.entries i 0 (omega arith) (omega arith) ∙ first-right p i hi in
      elim (sign_cases (p.b i) (limits.b_not_negative i hi)) [
        | inr above ↦ record {
          place = 0;
          in_range = omega arith;
          same_before = λ k h. absurd (omega arith);
          less = subst (λ z. pos 0 <ℤ z) (sym right) above;
        }
        | inl none ↦ record {
          place = suc i;
          in_range = omega arith;
          same_before = before_slack hi (right ∙ none);
          less = subst (λ z. pos 0 <ℤ z) (sym (slack i i (omega arith) hi ∙ delta-same i)) (omega (arith, ints));
        }
      ]

  pub first_sound : IsWithinLimits p → IsSound p t
  first_sound limits = record {
    den_positive = omega (arith, first.over_one);
    combined = combined;
    recovered = recovered;
    unit = unit;
    basis_after = λ i hi. omega (arith, first.slacks i hi);
    basis_within = λ i hi. omega (arith, first.slacks i hi);
    rows_positive = rows_positive limits;
  }
