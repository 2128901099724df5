use Rattle.std.proofs.Common.{◌*◌, ◌<◌, ◌≤◌, ◌^◌, ap, arith, slice_index, ◌∙◌}
use Rattle.rp_patch.proofs.UnitsWeight.{product_small, term_more}
use Rattle.rp_patch.proofs.weights.weight_of_units.Goals as goal

pub overflow_add-weight : goal.overflow_add-weight
overflow_add-weight g c =
    let weight : c.from.result < 2 ^ 64 = omega (arith, c.from.ensures, c.type_inv.weights c.loop-i.i) in
    let units : c.from-in-loop-i.result ≤ 1000000000 = omega (arith, c.from-in-loop-i.ensures, c.units.ensures.few) in
    let small = product_small c.from.result c.from-in-loop-i.result weight units in
    omega (arith, small, c.loop-i.invariant.1)

pub loop-i-preserved : goal.loop-i-preserved
loop-i-preserved g c =
    let k = g.C.CellUnits.kinds c.args.cells.now in
    let weight : c.from.result < 2 ^ 64 = omega (arith, c.from.ensures, c.type_inv.weights c.loop-i.i) in
    let units : c.from-in-loop-i.result ≤ 1000000000 = omega (arith, c.from-in-loop-i.ensures, c.units.ensures.few) in
    let small = product_small c.from.result c.from-in-loop-i.result weight units in (
      term_more (λ i. slice_index c.args.weights.now i * k.units i) c.loop-i.i c.loop-i.weight _ c.loop-i.invariant.0
          (ap (λ x. x * c.from-in-loop-i.result) c.from.ensures ∙ ap (λ x. slice_index c.args.weights.now c.loop-i.i * x) (c.from-in-loop-i.ensures ∙ c.units.ensures.exact)),
      omega (arith, small, c.loop-i.invariant.1),
    )
