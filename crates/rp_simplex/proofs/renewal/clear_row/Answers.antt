use Prim.Native.Nat.{◌∣◌}
use Rattle.std.proofs.Common.{◌≡◌, ◌*◌, ◌^◌, ◌≤◌, rules, sym, ◌∙◌, subst, arith, true}
use Rattle.std.specs.Int.{w64, w128}
use Rattle.std.specs.Int.RustNames.{unsigned_abs}
use mir.Val.{to_z, of_z}
use Rattle.rp_simplex.specs.InnerRows.{IsQuotient, less_multiple}
use Rattle.rp_simplex.proofs.ClearedRows.{all_written, cleared_read, other_numbers, row_more, same_row}
use Rattle.rp_simplex.proofs.renewal.clear_row.Goals as goal
use Rattle.rp_simplex.proofs.renewal.clear_row.Goals.{After-difference_of_products-number}

number_is : (c : After-difference_of_products-number) → to_z w128 (of_z w128 c.difference_of_products-number.result)
    ≡ less_multiple c.args.grid.now c.args.r c.args.i (to_z w64 (of_z w64 c.args.pivot)) (to_z w64 (of_z w64 c.args.factor)) c.loop-s.s
number_is c =
    let inv = c.loop-s.invariant in
    cleared_read c.args.grid.now c.loop-s.rows.grid.now c.args.r c.args.i c.loop-s.s c.args.divisor (to_z w64 (of_z w64 c.args.pivot)) (to_z w64 (of_z w64 c.args.factor))
    c.requires.ready.row c.requires.ready.pivot_row c.requires.ready.apart (omega (arith, c.cols-cols.ensures.count)) c.requires.ready.fit c.requires.ready.pivot_fit inv.written
    c.difference_of_products-number.result c.into_at.result c.from_at.result c.loop-s.rows.into c.loop-s.rows.from inv.into inv.from c.into_at.ensures c.from_at.ensures
    c.difference_of_products-number.type_inv c.difference_of_products-number.ensures.value

whole : (c : After-difference_of_products-number) → to_z w128 (of_z w128 c.difference_of_products-number.result) ≡ less_multiple c.args.grid.now c.args.r c.args.i c.args.pivot c.args.factor c.loop-s.s
whole c = number_is c ∙ same_row c.args.grid.now c.args.r c.args.i c.loop-s.s c.args.pivot c.args.factor c.requires.ready.pivot c.requires.ready.factor

pub quotient-requires-clause-divides : goal.quotient-requires-clause-divides
quotient-requires-clause-divides c =
    subst (λ z. c.args.divisor ∣ unsigned_abs z) (sym (whole (goal.at.quotient-requires-clause-divides c).After-difference_of_products-number)) (c.requires.divides c.loop-s.s (omega (arith, c.cols-cols.ensures.count)))

pub returns-in-None : goal.returns-in-None
returns-in-None c =
    (c.loop-s.s, omega (arith, c.cols-cols.ensures.count), subst (λ z. 2 ^ 63 * c.args.divisor ≤ unsigned_abs z) (whole (goal.at.returns-in-None c).After-difference_of_products-number) c.in-None.ensures)

pub loop-s-preserved : goal.loop-s-preserved
loop-s-preserved c =
    let inv = c.loop-s.invariant in
    record {
      same_grid = c.set.ensures.same_grid ∙ inv.same_grid;
      into = c.set.ensures.into ∙ inv.into;
      from = c.set.ensures.from ∙ inv.from;
      written = row_more c.args.grid.now c.loop-s.rows.grid.now c.args.r c.args.i c.loop-s.s c.args.divisor (to_z w64 (of_z w64 c.args.pivot)) (to_z w64 (of_z w64 c.args.factor))
          c.requires.ready.row c.requires.ready.pivot_row c.requires.ready.apart (omega (arith, c.cols-cols.ensures.count)) c.requires.ready.fit c.requires.ready.pivot_fit inv.written
          c.in-Some.value _ c.loop-s.rows.into c.set.new.self.grid.now (number_is (goal.at.loop-s-preserved c).After-difference_of_products-number) c.in-Some.ensures inv.into c.set.ensures.written;
    }

pub returns : goal.returns
returns c =
    let inv = c.loop-s.invariant in
    other_numbers true c.args.grid.now _ c.args.i c.args.divisor
    (less_multiple c.args.grid.now c.args.r c.args.i (to_z w64 (of_z w64 c.args.pivot)) (to_z w64 (of_z w64 c.args.factor))) (less_multiple c.args.grid.now c.args.r c.args.i c.args.pivot c.args.factor)
    (λ s l. same_row c.args.grid.now c.args.r c.args.i s c.args.pivot c.args.factor c.requires.ready.pivot c.requires.ready.factor)
    (all_written c.args.grid.now c.loop-s.rows.grid.now _ c.args.i c.loop-s.s (λ k value. IsQuotient (less_multiple c.args.grid.now c.args.r c.args.i (to_z w64 (of_z w64 c.args.pivot)) (to_z w64 (of_z w64 c.args.factor)) k) c.args.divisor value) inv.written (search rules) (search rules))
