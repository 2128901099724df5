use Prim.Native.Nat.{◌∣◌}
use Rattle.std.proofs.Common.{◌≡◌, ℕ, ◌+◌, ◌*◌, ◌^◌, ◌≤◌, sym, ◌∙◌, subst, arith}
use Rattle.std.specs.Int.{w64}
use Rattle.std.specs.Int.RustNames.{unsigned_abs}
use mir.Val.{to_z, of_z}
use Rattle.rp_simplex.specs.InnerRows.{AreRenewed, factor, less_multiple}
use Rattle.rp_simplex.proofs.ClearedRows.{back, factor_read, row_left_out, rows_more, same_multiple}
use Rattle.rp_simplex.proofs.renewal.renew_others.Goals as goal
use Rattle.rp_simplex.proofs.renewal.renew_others.Goals.{After-factor_of-factor, then-i-r+else-not-renew_row, else-i-r}

read : (c : After-factor_of-factor) → to_z w64 (of_z w64 c.factor_of-factor.result) ≡ factor c.args.grid.now c.args.column.now c.loop-i.i
read c = factor_read c.args.grid.now c.loop-i.grid c.args.r (to_z w64 (of_z w64 c.args.pivot)) (factor c.args.grid.now c.args.column.now) c.args.divisor c.loop-i.i c.loop-i.invariant c.args.column.now c.factor_of-factor.result
    c.requires.ready.factors_fit (omega (arith, c.rows-i-end.ensures.count)) c.factor_of-factor.ensures

same : (c : After-factor_of-factor) (s : ℕ) → less_multiple c.loop-i.grid c.args.r c.loop-i.i (to_z w64 (of_z w64 c.args.pivot)) (to_z w64 (of_z w64 c.factor_of-factor.result)) s
    ≡ less_multiple c.args.grid.now c.args.r c.loop-i.i c.args.pivot (factor c.args.grid.now c.args.column.now c.loop-i.i) s
same c s =
    same_multiple c.args.grid.now c.loop-i.grid c.args.r (to_z w64 (of_z w64 c.args.pivot)) (factor c.args.grid.now c.args.column.now) c.args.divisor c.loop-i.i c.loop-i.invariant (to_z w64 (of_z w64 c.factor_of-factor.result)) s
    ∙ (λ k. less_multiple c.args.grid.now c.args.r c.loop-i.i (back c.args.pivot c.requires.ready.pivot k) (read c k) s)

pub renew_row-requires-clause-divides : goal.renew_row-requires-clause-divides
renew_row-requires-clause-divides c = λ s l.
    subst (λ z. c.args.divisor ∣ unsigned_abs z) (sym (same (goal.at.renew_row-requires-clause-divides c).After-factor_of-factor s))
    (c.requires.divides c.loop-i.i s (omega (arith, c.rows-i-end.ensures.count)) c.if-i-r.true (omega (arith, c.loop-i.invariant.cols)))

pub returns-then-not-renew_row : goal.returns-then-not-renew_row
returns-then-not-renew_row c =
    let there = c.if-not-renew_row.ensures in (
      c.loop-i.i,
      omega (arith, c.rows-i-end.ensures.count),
      c.if-i-r.true,
      (
        there.0,
        omega (arith, there.1, c.loop-i.invariant.cols),
        subst (λ z. 2 ^ 63 * c.args.divisor ≤ unsigned_abs z) (same (goal.at.returns-then-not-renew_row c).After-factor_of-factor there.0) there.2,
      ),
    )

pub loop-i-preserved : goal.loop-i-preserved
loop-i-preserved c =
    let old = c.args.grid.now in let now = c.loop-i.grid in let so_far = c.loop-i.invariant in
    elim c.if-i-r.branch [
      | then-i-r+else-not-renew_row w ↦ subst (λ g. AreRenewed old g c.args.r (to_z w64 (of_z w64 c.args.pivot)) (factor old c.args.column.now) c.args.divisor (c.loop-i.i + 1)) (sym w.grid-is)
          (rows_more old now c.args.r (to_z w64 (of_z w64 c.args.pivot)) (factor old c.args.column.now) c.args.divisor c.loop-i.i so_far w.renew_row.new.grid (to_z w64 (of_z w64 w.factor_of-factor.result))
          (factor_read old now c.args.r (to_z w64 (of_z w64 c.args.pivot)) (factor old c.args.column.now) c.args.divisor c.loop-i.i so_far c.args.column.now w.factor_of-factor.result
          c.requires.ready.factors_fit (omega (arith, c.rows-i-end.ensures.count)) w.factor_of-factor.ensures)
          w.if-i-r.true w.if-not-renew_row.ensures)
      | else-i-r w ↦ subst (λ g. AreRenewed old g c.args.r (to_z w64 (of_z w64 c.args.pivot)) (factor old c.args.column.now) c.args.divisor (c.loop-i.i + 1)) (sym w.grid-is)
          (row_left_out old now c.args.r (to_z w64 (of_z w64 c.args.pivot)) (factor old c.args.column.now) c.args.divisor c.loop-i.i so_far w.if-i-r.false)
    ]
