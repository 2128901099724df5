-- The run has one course and one end. Tableaus with the same numbers and the same basic columns have the same entering
-- column, and of two leaving rows neither has the lesser ratios, so they are one; by induction there is one tableau
-- after each number of pivots, and the run cannot both stop there and go on.
use Prim.Native.Nat.{◌∣◌}
use Rattle.std.proofs.Common.{◌≡◌, ℕ, ◌*◌, ◌^◌, ◌<◌, ◌≤◌, ℤ, pos, ◌-ℤ◌, ◌*ℤ◌, ◌<ℤ◌, ◌≤ℤ◌, inl, inr, sym, ◌∙◌, ap, subst, arith}
use Rattle.std.specs.Int.RustNames.{unsigned_abs}
use Rattle.std.proofs.lemmas.Int.{ints}
use Rattle.std.proofs.lemmas.Bool.{cases_eq, cases_lt}
use Rattle.std.proofs.lemmas.Nat.Gcd.{dvd_antisymm}
use Rattle.std.proofs.Math.Nat.{eq_of_mul-eq-mul_right}
use borrow.Author.Differences.{up}
use Rattle.rp_farkas.specs.LinearProgram.{LinearProgram}
use Rattle.rp_farkas.specs.Limits.{IsWithinLimits}
use Rattle.rp_simplex.specs.ExactTableau.{ExactTableau, width_of}
use Rattle.rp_simplex.specs.FirstTableau.{IsFirstTableau}
use Rattle.rp_simplex.specs.Lexicographic.{IsLexLess}
use Rattle.rp_simplex.specs.Choice.{IsEntering, IsOptimal, IsLeaving, IsUnbounded}
use Rattle.rp_simplex.specs.Pivot.{cleared, DividesAll, IsPivot}
use Rattle.rp_simplex.specs.Run.{IsTableauAfter, begins, pivots}
use Rattle.rp_simplex.specs.Width.{IsWithinWidth}
use Rattle.rp_simplex.proofs.Linear.{cancel}
use Rattle.rp_simplex.proofs.Sound.{IsSound}
use Rattle.rp_simplex.proofs.PivotSound.{divisor_positive, cleared-row, cleared-other}
use Rattle.rp_simplex.proofs.Steps.{reached_sound}

-- two tableaus with the same numbers and the same basic columns
pub record IsSame (rows width : ℕ) (t u : ExactTableau) : Type 0 where
  pub den : t.den ≡ u.den
  pub entries : (i j : ℕ) → i ≤ rows → j < width → t.at i j ≡ u.at i j
  pub basis : (i : ℕ) → i < rows → t.basis i ≡ u.basis i

pub turned : (rows width : ℕ) (t u : ExactTableau) → IsSame rows width t u → IsSame rows width u t
turned rows width t u s = record { den = sym s.den; entries = λ i j hi hj. sym (s.entries i j hi hj); basis = λ i hi. sym (s.basis i hi) }

first_same : (p : LinearProgram) (t u : ExactTableau) → IsFirstTableau p t → IsFirstTableau p u → IsSame p.rows (width_of p) t u
first_same p t u f g = record {
  den = f.over_one ∙ sym g.over_one;
  entries = λ i j hi hj. f.entries i j hi hj ∙ sym (g.entries i j hi hj);
  basis = λ i hi. f.slacks i hi ∙ sym (g.slacks i hi);
}

not_both : (x y : ℤ) → x ≡ y → x <ℤ pos 0 → pos 0 ≤ℤ y → ⊥
not_both x y e h k = omega (arith, ints)

not_above : (x y : ℤ) → x ≡ y → pos 0 <ℤ x → y ≤ℤ pos 0 → ⊥
not_above x y e h k = omega (arith, ints)

module _ (rows width : ℕ) (t u : ExactTableau) (same : IsSame rows width t u) where
  pub entering_same : (c d : ℕ) → IsEntering rows width t c → IsEntering rows width u d → c ≡ d
  entering_same c d h k = elim (cases_lt c d) [
    | inl less ↦ absurd (not_both (t.at rows c) (u.at rows c) (same.entries rows c (omega arith) h.in_width) h.negative (k.first c h.after_right_sides less))
    | inr at_least ↦ elim (cases_lt d c) [
      | inl less ↦ absurd (not_both (u.at rows d) (t.at rows d) (sym (same.entries rows d (omega arith) k.in_width)) k.negative (h.first d k.after_right_sides less))
      | inr at_most ↦ omega arith
    ]
  ]

  pub not_optimal : (c : ℕ) → IsEntering rows width t c → IsOptimal rows width u → ⊥
  not_optimal c h optimal = not_both (t.at rows c) (u.at rows c) (same.entries rows c (omega arith) h.in_width) h.negative (optimal c h.after_right_sides h.in_width)

  pub not_unbounded : (c r : ℕ) → c < width → IsLeaving rows width t c r → IsUnbounded rows u c → ⊥
  not_unbounded c r hc h unbounded = not_above (t.at r c) (u.at r c) (same.entries r c (omega (arith, h.in_rows)) hc) h.positive (unbounded r h.in_rows)

  pub within_same : IsWithinWidth rows width t → IsWithinWidth rows width u
  within_same h = record {
    den_fits = subst (λ n. n < 2 ^ 63) same.den h.den_fits;
    entries_fit = λ i j hi hj. subst (λ z. unsigned_abs z < 2 ^ 63) (same.entries i j hi hj) (h.entries_fit i j hi hj);
  }

  cleared_same : (r c i j : ℕ) → r ≤ rows → c < width → i ≤ rows → j < width → cleared t r c i j ≡ cleared u r c i j
  cleared_same r c i j hr hc hi hj = elim (cases_eq i r) [
    | inl e ↦ subst (λ k. cleared t r c k j ≡ cleared u r c k j) (sym e)
        (cleared-row t r c j ∙ ap (λ z. z *ℤ pos t.den) (same.entries r j hr hj) ∙ ap (λ n. u.at r j *ℤ pos n) same.den ∙ sym (cleared-row u r c j))
    | inr ne ↦ cleared-other t r c i j ne
        ∙ ap (λ z. z *ℤ t.at r c -ℤ t.at i c *ℤ t.at r j) (same.entries i j hi hj)
        ∙ ap (λ z. u.at i j *ℤ z -ℤ t.at i c *ℤ t.at r j) (same.entries r c hr hc)
        ∙ ap (λ z. u.at i j *ℤ u.at r c -ℤ z *ℤ t.at r j) (same.entries i c hi hc)
        ∙ ap (λ z. u.at i j *ℤ u.at r c -ℤ u.at i c *ℤ z) (same.entries r j hr hj)
        ∙ sym (cleared-other u r c i j ne)
  ]

  den_same : (r c : ℕ) → r ≤ rows → c < width → pos t.den *ℤ t.at r c ≡ pos u.den *ℤ u.at r c
  den_same r c hr hc = ap (λ n. pos n *ℤ t.at r c) same.den ∙ ap (λ z. pos u.den *ℤ z) (same.entries r c hr hc)

  divides_same : (r c k : ℕ) → r ≤ rows → c < width → DividesAll rows width t r c k → DividesAll rows width u r c k
  divides_same r c k hr hc h = record {
    divides_den = subst (λ z. k ∣ unsigned_abs z) (den_same r c hr hc) h.divides_den;
    divides_entries = λ i j hi hj. subst (λ z. k ∣ unsigned_abs z) (cleared_same r c i j hr hc hi hj) (h.divides_entries i j hi hj);
  }

lex_asym : (n : ℕ) (f g : ℕ → ℤ) → IsLexLess n f g → IsLexLess n g f → ⊥
lex_asym n f g h k = elim (cases_lt h.place k.place) [
  | inl first ↦ let e : g h.place ≡ f h.place = k.same_before h.place first in let l : f h.place <ℤ g h.place = h.less in omega (arith, ints)
  | inr later ↦ elim (cases_eq h.place k.place) [
    | inl same ↦ let l : f h.place <ℤ g h.place = h.less in let m : g h.place <ℤ f h.place = subst (λ q. g q <ℤ f q) (sym same) k.less in omega (arith, ints)
    | inr ne ↦ let e : f k.place ≡ g k.place = h.same_before k.place (omega arith) in let l : g k.place <ℤ f k.place = k.less in omega (arith, ints)
  ]
]

pub lex_same : (n : ℕ) (f g f' g' : ℕ → ℤ) → ((j : ℕ) → j < n → f j ≡ f' j) → ((j : ℕ) → j < n → g j ≡ g' j) → IsLexLess n f g → IsLexLess n f' g'
lex_same n f g f' g' e k h = record {
  place = h.place;
  in_range = h.in_range;
  same_before = λ j l. sym (e j (omega (arith, h.in_range))) ∙ h.same_before j l ∙ k j (omega (arith, h.in_range));
  less = subst (λ z. z <ℤ g' h.place) (e h.place h.in_range) (subst (λ z. f h.place <ℤ z) (k h.place h.in_range) h.less);
}

leaving_same : (rows width : ℕ) (t u : ExactTableau) (c r s : ℕ) → IsSame rows width t u → c < width → IsLeaving rows width t c r → IsLeaving rows width u c s → r ≡ s
leaving_same rows width t u c r s same hc h k = elim (cases_eq r s) [
  | inl e ↦ e
  | inr ne ↦
      let at_r : t.at r c ≡ u.at r c = same.entries r c (omega (arith, h.in_rows)) hc in
      let at_s : t.at s c ≡ u.at s c = same.entries s c (omega (arith, k.in_rows)) hc in
      let one : IsLexLess width (λ j. t.at s c *ℤ t.at r j) (λ j. t.at r c *ℤ t.at s j) = h.least s k.in_rows (λ q. ne (sym q)) (subst (λ z. pos 0 <ℤ z) (sym at_s) k.positive) in
      let two : IsLexLess width (λ j. u.at r c *ℤ u.at s j) (λ j. u.at s c *ℤ u.at r j) = k.least r h.in_rows ne (subst (λ z. pos 0 <ℤ z) at_r h.positive) in
      absurd (lex_asym width (λ j. u.at s c *ℤ u.at r j) (λ j. u.at r c *ℤ u.at s j)
      (lex_same width (λ j. t.at s c *ℤ t.at r j) (λ j. t.at r c *ℤ t.at s j) (λ j. u.at s c *ℤ u.at r j) (λ j. u.at r c *ℤ u.at s j)
      (λ j l. ap (λ z. z *ℤ t.at r j) at_s ∙ ap (λ z. u.at s c *ℤ z) (same.entries r j (omega (arith, h.in_rows)) l))
      (λ j l. ap (λ z. z *ℤ t.at s j) at_r ∙ ap (λ z. u.at r c *ℤ z) (same.entries s j (omega (arith, k.in_rows)) l)) one) two)
]

pivot_same : (p : LinearProgram) (t u t' u' : ExactTableau) (r c : ℕ) → IsSound p t → IsSame p.rows (width_of p) t u → IsEntering p.rows (width_of p) t c → IsLeaving p.rows (width_of p) t c r
    → IsPivot p.rows (width_of p) t r c t' → IsPivot p.rows (width_of p) u r c u' → IsSame p.rows (width_of p) t' u'
pivot_same p t u t' u' r c sound same entering leaving a b =
    let hr : r ≤ p.rows = omega (arith, leaving.in_rows) in
    let hc : c < width_of p = entering.in_width in
    let back = turned p.rows (width_of p) t u same in
    let one_way : a.divisor ∣ b.divisor = b.greatest a.divisor (divides_same p.rows (width_of p) t u same r c a.divisor hr hc a.divides) in
    let other_way : b.divisor ∣ a.divisor = a.greatest b.divisor (divides_same p.rows (width_of p) u t back r c b.divisor hr hc b.divides) in
    let divisor : a.divisor ≡ b.divisor = dvd_antisymm one_way other_way in
    let positive : 0 < a.divisor = divisor_positive p t r c t' sound entering leaving a in
    record {
      den = eq_of_mul-eq-mul_right a.divisor positive t'.den u'.den
          (ap up (sym a.den ∙ den_same p.rows (width_of p) t u same r c hr hc ∙ b.den) ∙ ap (λ n. u'.den * n) (sym divisor));
      entries = λ i j hi hj. cancel (t'.at i j) (u'.at i j) a.divisor positive
          (sym (a.entries i j hi hj) ∙ cleared_same p.rows (width_of p) t u same r c i j hr hc hi hj ∙ b.entries i j hi hj ∙ ap (λ n. u'.at i j *ℤ pos n) (sym divisor));
      basis = λ i hi. elim (cases_eq i r) [
        | inl e ↦ subst (λ k. t'.basis k ≡ u'.basis k) (sym e) (a.enters ∙ sym b.enters)
        | inr ne ↦ a.stays i hi ne ∙ same.basis i hi ∙ sym (b.stays i hi ne)
      ];
    }

-- the run reaches one tableau after each number of pivots
pub determined : (p : LinearProgram) {k : ℕ} {t u : ExactTableau} → IsWithinLimits p → IsTableauAfter p k t → IsTableauAfter p k u → IsSame p.rows (width_of p) t u
determined p limits (begins {t} f) (begins {t = u} g) = first_same p t u f g
determined p limits (pivots {t} {u = t'} {r} {c} before within entering leaving pivot) (pivots {t = u} {u = u'} {r = s} {c = d} before' within' entering' leaving' pivot') =
    let same = determined p limits before before' in
    let column : c ≡ d = entering_same p.rows (width_of p) t u same c d entering entering' in
    let leaving_there : IsLeaving p.rows (width_of p) u c s = subst (λ x. IsLeaving p.rows (width_of p) u x s) (sym column) leaving' in
    let row : r ≡ s = leaving_same p.rows (width_of p) t u c r s same entering.in_width leaving leaving_there in
    let pivot_there : IsPivot p.rows (width_of p) u r c u' = subst (λ x. IsPivot p.rows (width_of p) u x c u') (sym row) (subst (λ x. IsPivot p.rows (width_of p) u s x u') (sym column) pivot') in
    pivot_same p t u t' u' r c (reached_sound p limits before) same entering leaving pivot pivot_there

-- ---- where the run stops
pub record Stops (p : LinearProgram) (k : ℕ) (t : ExactTableau) : Type 0 where
  pub reached : IsTableauAfter p k t
  pub no_pivot : (c r : ℕ) → IsWithinWidth p.rows (width_of p) t → IsEntering p.rows (width_of p) t c → IsLeaving p.rows (width_of p) t c r → ⊥

pub record GoesOn (p : LinearProgram) (k : ℕ) : Type 0 where
  pub tableau : ExactTableau
  pub column : ℕ
  pub row : ℕ
  pub reached : IsTableauAfter p k tableau
  pub within : IsWithinWidth p.rows (width_of p) tableau
  pub entering : IsEntering p.rows (width_of p) tableau column
  pub leaving : IsLeaving p.rows (width_of p) tableau column row

went_on : (p : LinearProgram) {j : ℕ} {u : ExactTableau} (k : ℕ) → IsTableauAfter p j u → k < j → GoesOn p k
went_on p k (begins f) l = absurd (omega arith)
went_on p k (pivots {k = m} {t} {r} {c} before within entering leaving pivot) l = elim (cases_eq k m) [
  | inl e ↦ subst (GoesOn p) (sym e) (record { tableau = t; column = c; row = r; reached = before; within = within; entering = entering; leaving = leaving })
  | inr ne ↦ went_on p k before (omega arith)
]

entering_moved : (rows width : ℕ) (t u : ExactTableau) (c : ℕ) → IsSame rows width t u → IsEntering rows width t c → IsEntering rows width u c
entering_moved rows width t u c same h = record {
  after_right_sides = h.after_right_sides;
  in_width = h.in_width;
  negative = subst (λ z. z <ℤ pos 0) (same.entries rows c (omega arith) h.in_width) h.negative;
  first = λ j one l. subst (λ z. pos 0 ≤ℤ z) (same.entries rows j (omega arith) (omega (arith, h.in_width))) (h.first j one l);
}

leaving_moved : (rows width : ℕ) (t u : ExactTableau) (c r : ℕ) → IsSame rows width t u → c < width → IsLeaving rows width t c r → IsLeaving rows width u c r
leaving_moved rows width t u c r same hc h =
    let hr : r ≤ rows = omega (arith, h.in_rows) in
    record {
      in_rows = h.in_rows;
      positive = subst (λ z. pos 0 <ℤ z) (same.entries r c hr hc) h.positive;
      least = λ i hi ne above.
          let at_i : t.at i c ≡ u.at i c = same.entries i c (omega arith) hc in
          lex_same width (λ j. t.at i c *ℤ t.at r j) (λ j. t.at r c *ℤ t.at i j) (λ j. u.at i c *ℤ u.at r j) (λ j. u.at r c *ℤ u.at i j)
          (λ j l. ap (λ z. z *ℤ t.at r j) at_i ∙ ap (λ z. u.at i c *ℤ z) (same.entries r j hr l))
          (λ j l. ap (λ z. z *ℤ t.at i j) (same.entries r c hr hc) ∙ ap (λ z. u.at r c *ℤ z) (same.entries i j (omega arith) l))
          (h.least i hi ne (subst (λ z. pos 0 <ℤ z) (sym at_i) above));
    }

stops_last : (p : LinearProgram) {k j : ℕ} {t u : ExactTableau} → IsWithinLimits p → Stops p k t → IsTableauAfter p j u → j ≤ k
stops_last p {k} {j} {t} limits stop reached = elim (cases_lt k j) [
  | inl over ↦
      let on : GoesOn p k = went_on p k reached over in
      let same = determined p limits on.reached stop.reached in
      absurd (stop.no_pivot on.column on.row (within_same p.rows (width_of p) on.tableau t same on.within) (entering_moved p.rows (width_of p) on.tableau t on.column same on.entering)
      (leaving_moved p.rows (width_of p) on.tableau t on.column on.row same on.entering.in_width on.leaving))
  | inr at_most ↦ at_most
]

pub one_end : (p : LinearProgram) {k j : ℕ} {t u : ExactTableau} → IsWithinLimits p → Stops p k t → Stops p j u → (k ≡ j) × IsSame p.rows (width_of p) t u
one_end p {k} {j} {t} {u} limits a b =
    let one : j ≤ k = stops_last p limits a b.reached in
    let two : k ≤ j = stops_last p limits b a.reached in
    let e : k ≡ j = omega arith in
    (e, determined p limits (subst (λ n. IsTableauAfter p n t) e a.reached) b.reached)
