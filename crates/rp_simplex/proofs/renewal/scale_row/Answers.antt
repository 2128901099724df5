use Prim.Native.Nat.{◌∣◌}
use Rattle.std.proofs.Common.{◌≡◌, ◌*ℤ◌, sym, ap, ◌∙◌, subst, arith}
use Rattle.std.specs.Int.{w64, w128}
use Rattle.std.specs.Int.RustNames.{unsigned_abs}
use mir.Val.{to_z, of_z}
use Rattle.rp_simplex.specs.Cells.{cell}
use Rattle.rp_simplex.proofs.ClearedRows.{back, scaled_read, scaled_more}
use Rattle.rp_simplex.proofs.renewal.scale_row.Goals as goal
use Rattle.rp_simplex.proofs.renewal.scale_row.Goals.{After-product-entry}

entry_is : (c : After-product-entry) → to_z w128 (of_z w128 c.product-entry.result) ≡ cell c.args.grid.now c.args.i c.loop-j.j *ℤ to_z w64 (of_z w64 c.args.by)
entry_is c =
    scaled_read c.args.grid.now c.loop-j.grid c.args.i c.loop-j.j c.args.divisor (to_z w64 (of_z w64 c.args.by)) c.requires.row (omega (arith, c.cols-j-end.ensures.count)) c.requires.fit c.loop-j.invariant
    c.product-entry.result c.row.result.now c.row.ensures.row c.product-entry.type_inv c.product-entry.ensures.value

pub quotient-requires-clause-divides : goal.quotient-requires-clause-divides
quotient-requires-clause-divides c =
    subst (λ z. c.args.divisor ∣ unsigned_abs z) (sym (entry_is (goal.at.quotient-requires-clause-divides c).After-product-entry ∙ ap (λ y. cell c.args.grid.now c.args.i c.loop-j.j *ℤ y) (back c.args.by c.requires.by))) (c.requires.divides c.loop-j.j (omega (arith, c.cols-j-end.ensures.count)))

pub loop-j-preserved : goal.loop-j-preserved
loop-j-preserved c =
    scaled_more c.args.grid.now c.loop-j.grid c.args.i c.loop-j.j c.args.divisor (to_z w64 (of_z w64 c.args.by)) c.requires.row (omega (arith, c.cols-j-end.ensures.count)) c.requires.fit c.loop-j.invariant
    c.in-Some.value _ c.row_mut.result.now c.row_mut.ensures.row c.row_mut.ensures.length c.row_mut.ensures.kept (entry_is (goal.at.loop-j-preserved c).After-product-entry) c.in-Some.ensures
