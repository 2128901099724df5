use Rattle.std.proofs.Common.{◌≡◌, ◌^◌, ◌<◌, pos, List, ℤ, get_or, sym, ap, ◌∙◌, subst}
use Rattle.std.specs.Int.RustNames.{unsigned_abs}
use Rattle.std.specs.Int.{w64}
use mir.Val.{to_z, of_z}
use Rattle.rp_simplex.specs.Cells.{cell}
use Rattle.rp_simplex.proofs.ClearedRows.{back}
use Rattle.rp_simplex.proofs.CombinationLemmas.{multiplier_fits}
use Rattle.rp_simplex.proofs.stage.Stage.multiplier.Goals as goal

pub returns-clause-fits : goal.returns-clause-fits
returns-clause-fits c =
    let number : ℤ = cell c.args.self.now.multipliers c.args.i c.args.s in
    let fits : unsigned_abs number < 2 ^ 63 = multiplier_fits c.args.self.now c.args.i c.args.s c.requires.row c.requires.place in
    let same : to_z w64 (of_z w64 (get_or c.row.result.now c.args.s (pos 0))) ≡ number
    = ap (λ (xs : List ℤ). to_z w64 (of_z w64 (get_or xs c.args.s (pos 0)))) c.row.ensures.row ∙ back number fits in
    subst (λ z. unsigned_abs z < 2 ^ 63) (sym same) fits
