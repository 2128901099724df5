use Prim.Native.Nat.{◌∣◌}
use Rattle.std.proofs.Common.{ℕ, ◌*◌, ◌^◌, ◌<◌, ◌≤◌, length, MatchBool, ℤ, sym, ◌∙◌, subst, arith}
use Rattle.std.specs.Int.{w64}
use Rattle.std.specs.Int.RustNames.{unsigned_abs}
use mir.Val.{to_z, of_z}
use Rattle.std.proofs.lemmas.Int.{to_z_pos}
use Rattle.rp_simplex.specs.InnerRows.{ArePivoted, OnePasses, factor, less_multiple, moved}
use Rattle.rp_simplex.proofs.ClearedRows.{back, moved-other, pivot_row_last, same_pivot_row}
use Rattle.rp_simplex.proofs.renewal.renew.Goals as goal

pub renew_others-requires-clause-divides : goal.renew_others-requires-clause-divides
renew_others-requires-clause-divides c = λ i s l apart within.
    let f : ℤ = factor c.args.grid.now c.args.column.now i in
    subst (λ z. c.args.divisor ∣ unsigned_abs z)
    (moved-other c.args.grid.now c.args.den c.args.r c.args.pivot i f s apart ∙ sym (λ k. less_multiple c.args.grid.now c.args.r i (back c.args.pivot c.requires.ready.pivot k) f s))
    (c.requires.divides i s l within)

pub scale_row-requires-clause-divides : goal.scale_row-requires-clause-divides
scale_row-requires-clause-divides c = λ s l.
    let f : ℕ → ℤ = factor c.args.grid.now c.args.column.now in
    subst (λ z. c.args.divisor ∣ unsigned_abs z)
    (sym (same_pivot_row c.args.grid.now c.renew_others.new.grid c.args.den c.args.r (to_z w64 (of_z w64 c.args.pivot)) f c.args.divisor c.if-renew_others.ensures _ s (to_z_pos w64 c.args.den c.requires.den)
    ∙ (λ k. moved c.args.grid.now c.args.den c.args.r (back c.args.pivot c.requires.ready.pivot k) c.args.r (f c.args.r) s)))
    (c.requires.divides c.args.r s c.requires.ready.pivot_row (omega (arith, c.if-renew_others.ensures.cols)))

pub returns-then-renew_others : goal.returns-then-renew_others
returns-then-renew_others c =
    let f : ℕ → ℤ = factor c.args.grid.now c.args.column.now in
    subst (λ p. MatchBool c.scale_row.result (ArePivoted c.args.grid.now c.scale_row.new.grid (λ i. moved c.args.grid.now c.args.den c.args.r p i (f i)) c.args.divisor)
    ((i : ℕ) × (i < length c.args.grid.now.rows) × OnePasses c.args.grid.now.cols (moved c.args.grid.now c.args.den c.args.r p i (f i)) c.args.divisor))
    (back c.args.pivot c.requires.ready.pivot)
    (pivot_row_last c.args.grid.now c.renew_others.new.grid c.args.den c.args.r (to_z w64 (of_z w64 c.args.pivot)) f c.args.divisor c.if-renew_others.ensures c.scale_row.result c.scale_row.new.grid _
    (to_z_pos w64 c.args.den c.requires.den) c.requires.ready.pivot_row c.scale_row.ensures)

pub returns-else-renew_others : goal.returns-else-renew_others
returns-else-renew_others c =
    let there = c.if-renew_others.ensures in
    let f : ℕ → ℤ = factor c.args.grid.now c.args.column.now in
    subst (λ b. MatchBool b (ArePivoted c.args.grid.now c.renew_others.new.grid (λ i. moved c.args.grid.now c.args.den c.args.r c.args.pivot i (f i)) c.args.divisor)
    ((i : ℕ) × (i < length c.args.grid.now.rows) × OnePasses c.args.grid.now.cols (moved c.args.grid.now c.args.den c.args.r c.args.pivot i (f i)) c.args.divisor)) (sym c.if-renew_others.false) (
      there.0,
      there.1,
      (
        there.3.0,
        there.3.1,
        subst (λ z. 2 ^ 63 * c.args.divisor ≤ unsigned_abs z)
            ((λ k. less_multiple c.args.grid.now c.args.r there.0 (back c.args.pivot c.requires.ready.pivot k) (f there.0) there.3.0) ∙ sym (moved-other c.args.grid.now c.args.den c.args.r c.args.pivot there.0 (f there.0) there.3.0 there.2)) there.3.2,
      ),
    )
