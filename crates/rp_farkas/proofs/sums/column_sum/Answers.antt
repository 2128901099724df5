use Rattle.std.proofs.Common.{ℕ, ◌≤◌, ℤ, pos, ◌*ℤ◌, slice_index, ap, sym, subst, arith}
use Rattle.std.specs.Int.RustNames.{unsigned_abs}
use mir.Val.{to_z}
use Rattle.std.specs.Int.{w128}
use Rattle.rp_farkas.specs.Limits.{largest_entry}
use Rattle.rp_farkas.proofs.SumSteps.{room_left, index_kept, index_start}
use Rattle.rp_farkas.proofs.sums.column_sum.Goals as goal

pub plus_product-sum-requires-clause-room : goal.plus_product-sum-requires-clause-room
plus_product-sum-requires-clause-room g c =
    let limits = g.met.P.Lp.within_limits c.args.p.now in
    room_left (to_z w128 c.loop-i.sum-bits) c.loop-i.i c.loop-i.invariant.1 (omega (arith, limits.rows_at_most))

pub loop-i-preserved : goal.loop-i-preserved
loop-i-preserved g c =
    let limits = g.met.P.Lp.within_limits c.args.p.now in
    let f : ℕ → ℤ = λ i. (g.P.Lp.program c.args.p.now).a i c.args.j *ℤ pos (slice_index c.args.x.now i) in
    index_kept f c.loop-i.i (slice_index c.args.x.now c.loop-i.i) _ c.plus_product-sum.result c.a.result
    (omega (arith, limits.rows_at_most))
    (subst (λ (z : ℤ). unsigned_abs z ≤ largest_entry) (sym c.a.ensures) (limits.a_bounded c.loop-i.i c.args.j (omega arith) c.requires.column))
    (c.requires.fits c.loop-i.i 0 (omega arith))
    c.loop-i.invariant c.plus_product-sum.type_inv c.a.type_inv c.plus_product-sum.ensures
    (ap (λ (z : ℤ). z *ℤ pos (slice_index c.args.x.now c.loop-i.i)) (sym c.a.ensures))

pub loop-i-init : goal.loop-i-init
loop-i-init g c = index_start (λ i. (g.P.Lp.program c.args.p.now).a i c.args.j *ℤ pos (slice_index c.args.x.now i))
