use Rattle.std.proofs.Common.{FitsSigned, rules, ◌∙◌, ap}
use Rattle.std.specs.Int.{w128}
use Rattle.std.proofs.lemmas.Int.{to_z-of_z}
use Rattle.rp_whole_tableau.specs.Pivots.{entry_in}
use Rattle.rp_whole_tableau.proofs.ReadOffs.{with_entry}
use Rattle.rp_whole_tableau.proofs.grown.Grown.divisor_with.Goals as goal

pub returns : goal.returns
returns c =
    let fits : FitsSigned w128 c.entry.result = search rules in
    let all = with_entry c.args.common c.unsigned_abs.result c.gcd.result c.requires c.gcd.ensures.greatest c.gcd.ensures.zero
    (entry_in c.args.self.now.tableau.rows.items c.args.i c.args.j) _ c.unsigned_abs.ensures.value (to_z-of_z w128 c.entry.result fits ∙ c.entry.ensures) in
    record { some = all.0; divides = all.1; entry = all.2 }
