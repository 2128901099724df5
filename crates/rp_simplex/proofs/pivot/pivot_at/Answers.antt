use Prim.Native.Nat.{◌∣◌}
use Rattle.std.proofs.Common.{◌≡◌, ℕ, ◌*◌, ◌/◌, ◌^◌, ◌<◌, ◌≤◌, pos, ◌*ℤ◌, sym, ◌∙◌, ap, subst, arith, refl}
use Rattle.std.specs.Int.{w64}
use Rattle.std.specs.Int.RustNames.{unsigned_abs}
use mir.Val.{to_z, of_z}
use Rattle.std.proofs.lemmas.List.{get_or-set_same, get_or-set_other}
use Rattle.rp_grid.specs.Rows.{row_of}
use Rattle.rp_simplex.specs.Cells.{cell}
use Rattle.rp_simplex.specs.InnerCombined.{dot}
use Rattle.rp_simplex.specs.InnerStage.{exact, renewed}
use Rattle.rp_simplex.specs.InnerRows.{ArePivoted, factor, moved}
use Rattle.rp_simplex.proofs.Bits.{back64}
use Rattle.rp_simplex.proofs.CombinationLemmas.{entries_after, multiplier_fits, objective_after}
use Rattle.rp_simplex.proofs.PassedWidth.{passes_by_combination, passes_by_multiplier}
use Rattle.rp_simplex.proofs.Pivoted.{Taken, pivot_by, passes_by_den, quotient_positive, divisor_small, whole_quotient}
use Rattle.rp_simplex.proofs.pivot.pivot_at.Goals as goal
use Rattle.rp_simplex.proofs.pivot.pivot_at.Goals.{After-common_divisor-divisor, After-row-column, After-renew, then-not-renew-via-then-not-renew, then-not-renew-via-else-not-renew+then-not-all_fit}

taken : (c : After-common_divisor-divisor) → Taken c.args.t.rows c.args.t.width (exact c.args.t) c.args.r c.args.c c.cleared_denominator-new_den.result c.common_divisor-divisor.result
taken c = record {
  den_is = c.cleared_denominator-new_den.ensures.value;
  positive = c.common_divisor-divisor.ensures.positive;
  divides_den = c.common_divisor-divisor.ensures.divides;
  divides = c.common_divisor-divisor.ensures.divides_all;
  greatest = c.common_divisor-divisor.ensures.greatest;
}

pub returns-then-new_den-divisor-gt-WIDTH-clause-next : goal.returns-then-new_den-divisor-gt-WIDTH-clause-next
returns-then-new_den-divisor-gt-WIDTH-clause-next c =
    passes_by_den c.args.t.rows c.args.t.width (exact c.args.t) c.args.r c.args.c c.cleared_denominator-new_den.result c.common_divisor-divisor.result
    (taken (goal.at.returns-then-new_den-divisor-gt-WIDTH-clause-next c).After-common_divisor-divisor) (omega arith)

pub renew-requires-clause-fit : goal.renew-requires-clause-fit
renew-requires-clause-fit c = λ i hi s hs. multiplier_fits c.args.t i s (omega (arith, c.args.t.multipliers_count)) (omega (arith, c.args.t.multipliers_width))

pub renew-requires-clause-small : goal.renew-requires-clause-small
renew-requires-clause-small c = divisor_small c.cleared_denominator-new_den.result c.common_divisor-divisor.result c.cleared_denominator-new_den.ensures.positive c.common_divisor-divisor.ensures.divides c.cleared_denominator-new_den.ensures.fits

same : (c : After-row-column) (i s : ℕ) → moved c.args.t.multipliers c.args.t.den c.args.r (to_z w64 (of_z w64 c.entry-pivot.result)) i (factor c.args.t.multipliers c.row-column.result.now i) s ≡ renewed c.args.t c.args.r c.args.c i s
same c i s = λ k. moved c.args.t.multipliers c.args.t.den c.args.r ((back64 c.entry-pivot.result c.entry-pivot.type_inv ∙ c.entry-pivot.ensures.value) k) i (dot (c.args.t.multipliers_width k) (row_of c.args.t.multipliers i) (c.row-column.ensures.row k)) s

pub renew-requires-clause-divides : goal.renew-requires-clause-divides
renew-requires-clause-divides c = λ i s hi hs. subst (λ z. c.common_divisor-divisor.result ∣ unsigned_abs z) (sym (same (goal.at.renew-requires-clause-divides c).After-row-column i s))
    (c.common_divisor-divisor.ensures.divides_multipliers i s (omega (arith, c.args.t.multipliers_count)) (omega (arith, c.args.t.multipliers_width)))

-- the multipliers that are written are those after the pivot
each : (c : After-renew) → ArePivoted c.args.t.multipliers c.renew.new.grid
    (λ i. moved c.args.t.multipliers c.args.t.den c.args.r (to_z w64 (of_z w64 c.entry-pivot.result)) i (factor c.args.t.multipliers c.row-column.result.now i)) c.common_divisor-divisor.result
    → (i s : ℕ) → i ≤ c.args.t.rows → s ≤ c.args.t.rows → renewed c.args.t c.args.r c.args.c i s ≡ cell c.renew.new.grid i s *ℤ pos c.common_divisor-divisor.result
each c made i s hi hs =
    sym (λ k. moved c.args.t.multipliers c.args.t.den c.args.r ((back64 c.entry-pivot.result c.entry-pivot.type_inv ∙ c.entry-pivot.ensures.value) k) i
    (dot (c.args.t.multipliers_width k) (row_of c.args.t.multipliers i) (c.row-column.ensures.row k)) s)
    ∙ (made.done i s (omega (arith, c.args.t.multipliers_count)) (omega (arith, c.args.t.multipliers_width))).whole

pub returns-then-not-renew-clause-next : goal.returns-then-not-renew-clause-next
returns-then-not-renew-clause-next c =
    let t = c.args.t in let den = c.cleared_denominator-new_den.result in let g = c.common_divisor-divisor.result in
    let numbers = taken (goal.at.returns-then-not-renew-clause-next c).After-common_divisor-divisor in
    elim c.then-not-renew.branch [
      | then-not-renew-via-then-not-renew w ↦
          let there = w.if-not-renew.ensures in
          passes_by_multiplier t c.args.r c.args.c c.requires.pivot_row den g numbers there.0 there.2.0 (omega (arith, there.1, t.multipliers_count)) (omega (arith, there.2.1, t.multipliers_width))
          (subst (λ z. 2 ^ 63 * g ≤ unsigned_abs z) (same (goal.at.returns-then-not-renew-clause-next c).After-row-column there.0 there.2.0) there.2.2)
      | then-not-renew-via-else-not-renew+then-not-all_fit w ↦
          let made = w.if-not-renew.ensures in
          let there = w.if-not-all_fit.ensures in
          passes_by_combination t c.args.r c.args.c c.requires.pivot_row den g numbers c.renew.new.grid (each (goal.at.returns-then-not-renew-clause-next c).After-renew made)
          there.0 there.1 (omega (arith, there.2, made.count, t.multipliers_count)) (omega (arith, there.3, t.columns_count))
          (subst (λ n. 2 ^ 63 ≤ unsigned_abs (dot n (row_of c.renew.new.grid there.0) (row_of t.columns there.1))) (made.cols ∙ t.multipliers_width) there.4)
    ]

pub invariant_of-result : goal.invariant_of-result
invariant_of-result c =
    let t = c.args.t in let den = c.cleared_denominator-new_den.result in let g = c.common_divisor-divisor.result in
    let made = c.if-not-renew.ensures in
    let fits = c.if-not-all_fit.ensures in
    let new_den : pos t.den *ℤ (exact t).at c.args.r c.args.c ≡ pos (den / g * g)
    = sym c.cleared_denominator-new_den.ensures.value ∙ ap pos (sym (whole_quotient den g c.common_divisor-divisor.ensures.divides)) in
    record {
      few_rows = t.few_rows;
      few_columns = t.few_columns;
      width_past_rows = t.width_past_rows;
      columns_count = t.columns_count;
      columns_height = t.columns_height;
      columns_equal = t.columns_equal;
      multipliers_count = made.count ∙ t.multipliers_count;
      multipliers_width = made.cols ∙ t.multipliers_width;
      multipliers_equal = made.equal;
      basis_length = t.basis_length;
      den_positive = quotient_positive den g c.cleared_denominator-new_den.ensures.positive c.common_divisor-divisor.ensures.divides;
      den_fits = omega arith;
      largest_small = t.largest_small;
      small = t.small;
      slacks = t.slacks;
      objective = objective_after t c.args.r c.args.c c.requires.pivot_row c.renew.new.grid g (each (goal.at.invariant_of-result c).After-renew made) (den / g) c.common_divisor-divisor.ensures.positive new_den;
      entries_fit = λ i j hi hj. subst (λ n. unsigned_abs (dot n (row_of c.renew.new.grid i) (row_of t.columns j)) < 2 ^ 63) (made.cols ∙ t.multipliers_width)
          (fits i j (omega (arith, made.count, t.multipliers_count)) (omega (arith, t.columns_count)));
    }

pub returns-clause-next : goal.returns-clause-next
returns-clause-next c =
    let t = c.args.t in
    let made = c.if-not-renew.ensures in
    pivot_by t.rows t.width (exact t) c.args.r c.args.c c.cleared_denominator-new_den.result c.common_divisor-divisor.result
    (taken (goal.at.returns-clause-next c).After-common_divisor-divisor) _ refl
    (λ i j hi hj. entries_after t c.args.r c.args.c c.requires.pivot_row c.renew.new.grid c.common_divisor-divisor.result (each (goal.at.returns-clause-next c).After-renew made) i j hi)
    (get_or-set_same t.basis.items c.args.r c.args.c 0 (omega (arith, t.basis_length, t.basis.ok.0)))
    (λ i l ne. get_or-set_other t.basis.items c.args.r i c.args.c 0 ne)
