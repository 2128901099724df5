use Rattle.std.proofs.Common.{ℤ, pos, ◌≤ℤ◌, slice_index, sym, subst, ap, arith}
use Rattle.std.proofs.lemmas.Int.{to_z-of_z}
use Rattle.std.specs.Int.{w128}
use Rattle.std.specs.Int.RustNames.{FitsSigned, unsigned_abs}
use Rattle.rp_farkas.proofs.Costs.{cost_not_negative, fits_without_sign}
use Rattle.rp_farkas.proofs.measure.Measure.of.Goals as goal

pub returns-in-Cost-clause-below : goal.returns-in-Cost-clause-below
returns-in-Cost-clause-below g c =
    let p = g.P.Lp.program c.args.p.now in
    let fits : FitsSigned w128 c.cost_sum.result = record { sfits = c.cost_sum.type_inv } in
    let same = ap unsigned_abs (to_z-of_z w128 c.cost_sum.result fits) in
    let positive = subst (λ (z : ℤ). pos 0 ≤ℤ z) (sym c.cost_sum.ensures)
    (cost_not_negative p (g.met.P.Lp.within_limits c.args.p.now).b_not_negative (slice_index c.args.x.now)) in
    omega (arith, same, fits_without_sign c.cost_sum.result positive fits, c.unsigned_abs.ensures.value)
