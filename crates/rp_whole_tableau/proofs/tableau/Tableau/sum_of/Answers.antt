use Rattle.std.proofs.Common.{◌<◌, FitsSigned, length, arith, rules, to_z, of_z}
use Rattle.std.specs.Int.{w128}
use Rattle.std.proofs.lemmas.Int.{ints}
use Rattle.rp_whole_tableau.proofs.WrittenOut.{sum_passes}
use Rattle.rp_whole_tableau.proofs.tableau.Tableau.sum_of.Goals as goal

pub returns-in-None : goal.returns-in-None
returns-in-None c =
    let inside : c.loop-k.k < length c.args.rows.now = search rules in
    let fits_entry : FitsSigned w128 c.entry.result = search rules in
    let fits = c.loop-k.auto.sum-fits in
    sum_passes c.args.self.now c.args.i c.args.rows.now c.loop-k.k (to_z w128 c.loop-k.sum-bits) (to_z w128 (of_z w128 c.entry.result)) c.in-None.ensures inside (search rules) (omega (arith, ints, c.entry.ensures))
