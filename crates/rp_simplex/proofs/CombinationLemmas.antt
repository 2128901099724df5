-- Each entry of a tableau is a combination of those of tableau 0, before a pivot and after it. What a pivot does is
-- linear: a cleared entry is the sum of the cleared multipliers by the same column (`combined`). So memory holds
-- tableau 0 and the multipliers alone, and every proof of the run is about whole tableaus, as if each entry were
-- stored. The slack columns are the multipliers (`slack_entry`), and the last multiplier is the denominator's
-- (`renewed_last`), so that one divisor divides the tableau just where it divides the multipliers (`all_divided`,
-- `divides_each`), and a multiplier that passes the width is an entry that passes it.
use Prim.Native.Nat.{◌∣◌}
use Rattle.std.proofs.Common.{◌≡◌, ◌≢◌, ℕ, suc, ◌*◌, ◌^◌, ◌<◌, ◌≤◌, ℤ, pos, ◌-ℤ◌, ◌*ℤ◌, List, length, get_or, cond, eqb, true, false, inl, inr, refl, sym, ◌∙◌, ap, subst, arith}
use Rattle.std.specs.Int.RustNames.{unsigned_abs, int_div}
use Rattle.std.proofs.lemmas.Int.{ints, unsigned_abs-mul}
use Rattle.std.proofs.lemmas.Bool.{cases_eq, cases_lt, eq-eqb, ne_eqb}
use Rattle.std.proofs.Math.Nat.{dvd-mul_left}
use Rattle.rp_farkas.specs.Limits.{FitsEvidence, largest_entry}
use Rattle.rp_farkas.specs.Total.{total}
use Rattle.rp_farkas.proofs.Totals.{total-same}
use Rattle.rp_farkas.proofs.Integers.{times_comm}
use Rattle.rp_grid.specs.Rows.{Rows, row_of}
use Rattle.rp_simplex.specs.Cells.{cell}
use Rattle.rp_simplex.specs.InnerCombined.{AreSmall, ElementsFit, combination, delta}
use Rattle.rp_simplex.specs.Pivot.{cleared, DividesAll}
use Rattle.rp_simplex.specs.InnerStage.{exact, renewed}
use Rattle.rp_simplex.specs.declared.stage.Stage.{Stage}
use Rattle.rp_simplex.specs.InnerRows.{less_multiple}
use Rattle.rp_simplex.proofs.Divisors.{divided}
use Rattle.rp_simplex.proofs.Linear.{delta-same, delta-other, delta-swapped, total-delta, total-cleared, total-scaled, cancel}
use Rattle.rp_simplex.proofs.PivotSound.{cleared-row, cleared-other}
use Rattle.rp_simplex.proofs.Ring.{at, ◌⊖◌, ◌⊗◌, ring}

-- ---- a divisor of the multipliers divides what they make
pub divides_total : (n g : ℕ) (h f : ℕ → ℤ) → ((s : ℕ) → s < n → g ∣ unsigned_abs (h s)) → g ∣ unsigned_abs (total n (λ s. h s *ℤ f s))
divides_total n g h f each =
    let quotients : ℕ → ℤ = λ s. int_div (h s) (pos g) in
    let whole : total n (λ s. h s *ℤ f s) ≡ total n (λ s. quotients s *ℤ f s) *ℤ pos g
    = total-same n (λ s. h s *ℤ f s) (λ s. (quotients s *ℤ pos g) *ℤ f s) (λ s l. ap (λ z. z *ℤ f s) (divided (h s) g (each s l)))
    ∙ total-scaled n quotients f (pos g) in
    let size : unsigned_abs (total n (λ s. h s *ℤ f s)) ≡ unsigned_abs (total n (λ s. quotients s *ℤ f s)) * g
    = ap unsigned_abs whole ∙ unsigned_abs-mul (total n (λ s. quotients s *ℤ f s)) (pos g) in
    subst (λ k. g ∣ k) (sym size) (dvd-mul_left g (unsigned_abs (total n (λ s. quotients s *ℤ f s))))

one_place : (d : ℤ) (n : ℕ) → d ≡ pos 1 → unsigned_abs (d *ℤ pos n) ≤ n
one_place d n e = subst (λ z. unsigned_abs (z *ℤ pos n) ≤ n) (sym e) (omega (arith, ints))

no_place : (d : ℤ) (n : ℕ) → d ≡ pos 0 → unsigned_abs (d *ℤ pos n) ≤ n
no_place d n e = subst (λ z. unsigned_abs (z *ℤ pos n) ≤ n) (sym e) (omega (arith, ints))

pub unit_size : (i k n : ℕ) → unsigned_abs (delta i k *ℤ pos n) ≤ n
unit_size i k n = elim (cases_eq i k) [
  | inl e ↦ subst (λ j. unsigned_abs (delta i j *ℤ pos n) ≤ n) e (one_place (delta i i) n (delta-same i))
  | inr ne ↦ no_place (delta i k) n (delta-other i k ne)
]

-- ---- the multipliers are the slack columns
module _ (t : Stage) where
  pub slack_entry : (i k : ℕ) → k < t.rows → (exact t).at i (suc k) ≡ cell t.multipliers i k
  slack_entry i k l =
      total-same (suc t.rows) (λ s. cell t.multipliers i s *ℤ cell t.columns (suc k) s) (λ s. delta k s *ℤ cell t.multipliers i s)
      (λ s within. ap (λ z. cell t.multipliers i s *ℤ z) (t.slacks k s l (omega arith) ∙ delta-swapped s k) ∙ times_comm (cell t.multipliers i s) (delta k s))
      ∙ total-delta (suc t.rows) k (cell t.multipliers i) (omega arith)

  pub multiplier_fits : (i s : ℕ) → i ≤ t.rows → s ≤ t.rows → FitsEvidence (unsigned_abs (cell t.multipliers i s))
  multiplier_fits i s hi hs = elim (cases_lt s t.rows) [
    | inl l ↦ subst (λ z. unsigned_abs z < 2 ^ 63) (slack_entry i s l) (t.entries_fit i (suc s) hi (omega (arith, t.width_past_rows)))
    | inr past ↦
        let last : s ≡ t.rows = omega arith in
        let size : unsigned_abs (cell t.multipliers i t.rows) ≤ t.den = subst (λ z. unsigned_abs z ≤ t.den) (sym (t.objective i hi)) (unit_size i t.rows t.den) in
        subst (λ k. unsigned_abs (cell t.multipliers i k) < 2 ^ 63) (sym last) (omega (arith, size, t.den_fits))
  ]

  -- ---- the pivot
  module _ (r c : ℕ) (there : r < t.rows) where
    renewed-row : (s : ℕ) → renewed t r c r s ≡ cell t.multipliers r s *ℤ pos t.den
    renewed-row s = let here : eqb r r ≡ true = eq-eqb r r refl in rw here refl

    renewed-other : (i s : ℕ) → i ≢ r → renewed t r c i s ≡ less_multiple t.multipliers r i ((exact t).at r c) ((exact t).at i c) s
    renewed-other i s ne = let other : eqb i r ≡ false = ne_eqb i r ne in rw other refl

    pub combined : (i j : ℕ) → cleared (exact t) r c i j ≡ total (suc t.rows) (λ s. renewed t r c i s *ℤ cell t.columns j s)
    combined i j = elim (cases_eq i r) [
      | inl e ↦ subst (λ k. cleared (exact t) r c k j ≡ total (suc t.rows) (λ s. renewed t r c k s *ℤ cell t.columns j s)) (sym e)
          (cleared-row (exact t) r c j
          ∙ sym (total-same (suc t.rows) (λ s. renewed t r c r s *ℤ cell t.columns j s) (λ s. (cell t.multipliers r s *ℤ pos t.den) *ℤ cell t.columns j s) (λ s _. ap (λ z. z *ℤ cell t.columns j s) (renewed-row s))
          ∙ total-scaled (suc t.rows) (cell t.multipliers r) (cell t.columns j) (pos t.den)))
      | inr ne ↦
          cleared-other (exact t) r c i j ne
          ∙ sym (total-same (suc t.rows) (λ s. renewed t r c i s *ℤ cell t.columns j s) (λ s. less_multiple t.multipliers r i ((exact t).at r c) ((exact t).at i c) s *ℤ cell t.columns j s) (λ s _. ap (λ z. z *ℤ cell t.columns j s) (renewed-other i s ne))
          ∙ total-cleared (suc t.rows) (cell t.multipliers i) (cell t.multipliers r) (cell t.columns j) ((exact t).at r c) ((exact t).at i c))
    ]

    pub cleared_slack : (i s : ℕ) → s < t.rows → cleared (exact t) r c i (suc s) ≡ renewed t r c i s
    cleared_slack i s l = λ k. cond (eqb i r) (slack_entry r s l k *ℤ pos t.den) (slack_entry i s l k *ℤ (exact t).at r c -ℤ (exact t).at i c *ℤ slack_entry r s l k)

    last_row : (d x : ℤ) (n : ℕ) → d ≡ pos 0 → (d *ℤ pos n) *ℤ pos n ≡ d *ℤ x
    last_row d x n e = ap (λ z. (z *ℤ pos n) *ℤ pos n) e ∙ ring ((at (pos 0) ⊗ at (pos n)) ⊗ at (pos n)) (at (pos 0) ⊗ at x) (omega arith) ∙ ap (λ z. z *ℤ x) (sym e)

    last_other : (d e p f : ℤ) (n : ℕ) → e ≡ pos 0 → (d *ℤ pos n) *ℤ p -ℤ f *ℤ (e *ℤ pos n) ≡ d *ℤ (pos n *ℤ p)
    last_other d e p f n q = ap (λ z. (d *ℤ pos n) *ℤ p -ℤ f *ℤ (z *ℤ pos n)) q
        ∙ ring (((at d ⊗ at (pos n)) ⊗ at p) ⊖ (at f ⊗ (at (pos 0) ⊗ at (pos n)))) (at d ⊗ (at (pos n) ⊗ at p)) (omega arith)

    -- the multipliers of the objective row are the denominator alone
    pub renewed_last : (i : ℕ) → i ≤ t.rows → renewed t r c i t.rows ≡ delta i t.rows *ℤ (pos t.den *ℤ (exact t).at r c)
    renewed_last i hi = elim (cases_eq i r) [
      | inl e ↦ subst (λ k. renewed t r c k t.rows ≡ delta k t.rows *ℤ (pos t.den *ℤ (exact t).at r c)) (sym e)
          (renewed-row t.rows ∙ ap (λ z. z *ℤ pos t.den) (t.objective r (omega arith)) ∙ last_row (delta r t.rows) (pos t.den *ℤ (exact t).at r c) t.den (delta-other r t.rows (omega arith)))
      | inr ne ↦ renewed-other i t.rows ne
          ∙ (λ k. t.objective i hi k *ℤ (exact t).at r c -ℤ (exact t).at i c *ℤ t.objective r (omega arith) k)
          ∙ last_other (delta i t.rows) (delta r t.rows) ((exact t).at r c) ((exact t).at i c) t.den (delta-other r t.rows (omega arith))
    ]

    pub all_divided : (den g : ℕ) → pos den ≡ pos t.den *ℤ (exact t).at r c → g ∣ den → ((i s : ℕ) → i ≤ t.rows → s ≤ t.rows → g ∣ unsigned_abs (renewed t r c i s))
        → DividesAll t.rows t.width (exact t) r c g
    all_divided den g is divides each = record {
      divides_den = subst (λ z. g ∣ unsigned_abs z) is divides;
      divides_entries = λ i j hi hj. subst (λ z. g ∣ unsigned_abs z) (sym (combined i j)) (divides_total (suc t.rows) g (renewed t r c i) (cell t.columns j) (λ s l. each i s hi (omega arith)));
    }

    nothing : (y : ℤ) (k : ℕ) → 0 * k ≡ unsigned_abs (pos 0 *ℤ y)
    nothing y k = omega (arith, ints)

    one_den : (d x : ℤ) (k : ℕ) → d ≡ pos 1 → k ∣ unsigned_abs x → k ∣ unsigned_abs (d *ℤ x)
    one_den d x k e h =
        let same : x ≡ pos 1 *ℤ x = omega (arith, ints) in
        subst (λ z. k ∣ unsigned_abs (z *ℤ x)) (sym e) (subst (λ z. k ∣ unsigned_abs z) same h)

    no_den : (d x : ℤ) (k : ℕ) → d ≡ pos 0 → k ∣ unsigned_abs (d *ℤ x)
    no_den d x k e = subst (λ z. k ∣ unsigned_abs (z *ℤ x)) (sym e) (subst (λ n. k ∣ n) (nothing x k) (dvd-mul_left k 0))

    -- what divides the tableau divides the multipliers
    pub divides_each : (k i s : ℕ) → DividesAll t.rows t.width (exact t) r c k → i ≤ t.rows → s ≤ t.rows → k ∣ unsigned_abs (renewed t r c i s)
    divides_each k i s all hi hs = elim (cases_lt s t.rows) [
      | inl l ↦ subst (λ z. k ∣ unsigned_abs z) (cleared_slack i s l) (all.divides_entries i (suc s) hi (omega (arith, t.width_past_rows)))
      | inr past ↦
          let last : s ≡ t.rows = omega arith in
          subst (λ q. k ∣ unsigned_abs (renewed t r c i q)) (sym last) (subst (λ z. k ∣ unsigned_abs z) (sym (renewed_last i hi)) (elim (cases_eq i t.rows) [
            | inl e ↦ one_den (delta i t.rows) (pos t.den *ℤ (exact t).at r c) k (subst (λ j. delta i j ≡ pos 1) e (delta-same i)) all.divides_den
            | inr ne ↦ no_den (delta i t.rows) (pos t.den *ℤ (exact t).at r c) k (delta-other i t.rows ne)
          ]))
    ]

-- ---- the multipliers after the pivot
module _ (t : Stage) (r c : ℕ) (there : r < t.rows) (made : Rows ℤ) (g : ℕ) (each : (i s : ℕ) → i ≤ t.rows → s ≤ t.rows → renewed t r c i s ≡ cell made i s *ℤ pos g) where
  pub entries_after : (i j : ℕ) → i ≤ t.rows → cleared (exact t) r c i j ≡ combination t.rows made t.columns i j *ℤ pos g
  entries_after i j hi =
      combined t r c there i j
      ∙ total-same (suc t.rows) (λ s. renewed t r c i s *ℤ cell t.columns j s) (λ s. (cell made i s *ℤ pos g) *ℤ cell t.columns j s) (λ s hs. ap (λ z. z *ℤ cell t.columns j s) (each i s hi (omega arith)))
      ∙ total-scaled (suc t.rows) (cell made i) (cell t.columns j) (pos g)

  regrouped : (d : ℤ) (m n : ℕ) → d *ℤ pos (m * n) ≡ (d *ℤ pos m) *ℤ pos n
  regrouped d m n = ring (at d ⊗ (at (pos m) ⊗ at (pos n))) ((at d ⊗ at (pos m)) ⊗ at (pos n)) (omega arith)

  pub objective_after : (den : ℕ) → 0 < g → pos t.den *ℤ (exact t).at r c ≡ pos (den * g) → (i : ℕ) → i ≤ t.rows → cell made i t.rows ≡ delta i t.rows *ℤ pos den
  objective_after den positive is i hi = cancel (cell made i t.rows) (delta i t.rows *ℤ pos den) g positive
      (sym (each i t.rows hi (omega arith)) ∙ renewed_last t r c there i hi ∙ ap (λ z. delta i t.rows *ℤ z) is ∙ regrouped (delta i t.rows) den g)

-- ---- the rows and columns that are read
pub row_elements_fit : (t : Stage) (i : ℕ) (xs : List ℤ) → xs ≡ row_of t.multipliers i → length xs ≡ t.multipliers.cols → i ≤ t.rows → ElementsFit xs
row_elements_fit t i xs same long hi = λ s l. subst (λ (ys : List ℤ). unsigned_abs (get_or ys s (pos 0)) < 2 ^ 63) (sym same) (multiplier_fits t i s hi (omega (arith, long, t.multipliers_width)))

pub column_small : (t : Stage) (j : ℕ) (xs : List ℤ) → xs ≡ row_of t.columns j → j < t.width → AreSmall largest_entry xs
column_small t j xs same hj = λ s l.
    let small : unsigned_abs (get_or xs s (pos 0)) ≤ t.largest = subst (AreSmall t.largest) (sym same) (t.small j hj) s l in
    omega (arith, small, t.largest_small)
