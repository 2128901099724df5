-- A number of the tableau after a pivot passes the width.
use Rattle.std.proofs.Common.{◌≡◌, ℕ, suc, ◌*◌, ◌/◌, ◌^◌, ◌<◌, ◌≤◌, ℤ, pos, ◌*ℤ◌, inl, inr, sym, ◌∙◌, ap, subst, arith}
use Rattle.std.specs.Int.RustNames.{unsigned_abs}
use Rattle.std.proofs.lemmas.Int.{ints, unsigned_abs-mul}
use Rattle.std.proofs.lemmas.Bool.{cases_eq, cases_lt}
use Rattle.std.proofs.Math.Nat.{mul-le-mul_right, mul-lt-mul_of_pos_right}
use Rattle.rp_grid.specs.Rows.{Rows}
use Rattle.rp_simplex.specs.Cells.{cell}
use Rattle.rp_simplex.specs.InnerCombined.{combination, delta}
use Rattle.rp_simplex.specs.InnerPivot.{PivotPasses}
use Rattle.rp_simplex.specs.InnerStage.{exact, renewed}
use Rattle.rp_simplex.specs.declared.stage.Stage.{Stage}
use Rattle.rp_simplex.proofs.CombinationLemmas.{cleared_slack, entries_after, renewed_last}
use Rattle.rp_simplex.proofs.Linear.{delta-same, delta-other}
use Rattle.rp_simplex.proofs.Pivoted.{Taken, passes_by_den, passes_by_entry, whole_quotient}

module _ (t : Stage) (r c : ℕ) (there : r < t.rows) (den g : ℕ) (taken : Taken t.rows t.width (exact t) r c den g) where
  large_den : 2 ^ 63 * g ≤ den → 2 ^ 63 ≤ den / g
  large_den large = elim (cases_lt (den / g) (2 ^ 63)) [
    | inl small ↦
        let scaled : den / g * g < 2 ^ 63 * g = mul-lt-mul_of_pos_right small taken.positive in
        absurd (omega (arith, whole_quotient den g taken.divides_den))
    | inr past ↦ past
  ]

  none : (d x : ℤ) → d ≡ pos 0 → unsigned_abs (d *ℤ x) ≡ 0
  none d x e = ap (λ z. unsigned_abs (z *ℤ x)) e ∙ omega (arith, ints)

  whole : (d x : ℤ) (n : ℕ) → d ≡ pos 1 → pos n ≡ x → unsigned_abs (d *ℤ x) ≡ n
  whole d x n e is = ap (λ z. unsigned_abs (z *ℤ x)) e ∙ ap (λ z. unsigned_abs (pos 1 *ℤ z)) (sym is) ∙ omega (arith, ints)

  pub passes_by_multiplier : (i s : ℕ) → i ≤ t.rows → s ≤ t.rows → 2 ^ 63 * g ≤ unsigned_abs (renewed t r c i s) → PivotPasses t.rows t.width (exact t) r c
  passes_by_multiplier i s hi hs large = elim (cases_lt s t.rows) [
    | inl l ↦ passes_by_entry t.rows t.width (exact t) r c den g taken i (suc s) hi (omega (arith, t.width_past_rows)) (subst (λ z. 2 ^ 63 * g ≤ unsigned_abs z) (sym (cleared_slack t r c there i s l)) large)
    | inr past ↦
        let last : s ≡ t.rows = omega arith in
        let here : 2 ^ 63 * g ≤ unsigned_abs (delta i t.rows *ℤ (pos t.den *ℤ (exact t).at r c))
        = subst (λ z. 2 ^ 63 * g ≤ unsigned_abs z) (renewed_last t r c there i hi) (subst (λ k. 2 ^ 63 * g ≤ unsigned_abs (renewed t r c i k)) last large) in
        elim (cases_eq i t.rows) [
          | inl e ↦
              let one : delta i t.rows ≡ pos 1 = subst (λ j. delta i j ≡ pos 1) e (delta-same i) in
              passes_by_den t.rows t.width (exact t) r c den g taken (large_den (subst (λ n. 2 ^ 63 * g ≤ n) (whole (delta i t.rows) (pos t.den *ℤ (exact t).at r c) den one taken.den_is) here))
          | inr ne ↦
              let nothing = none (delta i t.rows) (pos t.den *ℤ (exact t).at r c) (delta-other i t.rows ne) in
              let positive = taken.positive in
              absurd (omega (arith, nothing, here, positive))
        ]
  ]

  pub passes_by_combination : (made : Rows ℤ) → ((i s : ℕ) → i ≤ t.rows → s ≤ t.rows → renewed t r c i s ≡ cell made i s *ℤ pos g)
      → (i j : ℕ) → i ≤ t.rows → j < t.width → 2 ^ 63 ≤ unsigned_abs (combination t.rows made t.columns i j) → PivotPasses t.rows t.width (exact t) r c
  passes_by_combination made each i j hi hj large =
      let size = ap unsigned_abs (entries_after t r c there made g each i j hi) ∙ unsigned_abs-mul (combination t.rows made t.columns i j) (pos g) in
      passes_by_entry t.rows t.width (exact t) r c den g taken i j hi hj (subst (λ n. 2 ^ 63 * g ≤ n) (sym size) (mul-le-mul_right g large))
