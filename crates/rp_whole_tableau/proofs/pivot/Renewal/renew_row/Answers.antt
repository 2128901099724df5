use Rattle.std.proofs.Common.{◌≡◌, ◌<◌, FitsSigned, pos, length, arith, rules, to_z, of_z}
use Rattle.std.specs.Int.{w128}
use Rattle.std.proofs.lemmas.Int.{ints}
use Rattle.std.proofs.lemmas.List.{get_or_read}
use Rattle.rp_whole_tableau.specs.Pivots.{number_at}
use Rattle.rp_whole_tableau.proofs.Entries.{renewed_is, row_more}
use Rattle.rp_whole_tableau.proofs.pivot.Renewal.renew_row.Goals as goal

pub loop-j-preserved : goal.loop-j-preserved
loop-j-preserved c =
    let items = c.loop-j.row.items in
    let j = c.loop-j.j in
    let inside : j < length items = omega (arith, c.loop-j-test.true, c.len-j-end.ensures, c.loop-j.invariant.as_long, c.args.row.now.ok.0) in
    let fits_entry : FitsSigned w128 c.in-Some.entry = search rules in
    let fits_read : FitsSigned w128 c.index.result.now = search rules in
    let fits_across : FitsSigned w128 c.entry_at.result = search rules in
    let fits_factor = c.ranges.factor in
    let read : c.index.result.now ≡ number_at items j = get_or_read items j c.index.result.now inside c.index.ensures (pos 0) in
    row_more _ _ _ _ _ _ _ c.loop-j.invariant (to_z w128 (of_z w128 c.in-Some.entry)) inside
    (renewed_is c.args.self.now.by.number c.args.self.now.pivot (to_z w128 (of_z w128 c.index.result.now)) (to_z w128 (of_z w128 c.args.factor)) (to_z w128 (of_z w128 c.entry_at.result)) c.in-Some.entry c.in-Some.ensures c.args.self.now.pivot (number_at items j) (to_z w128 (of_z w128 c.args.factor)) (number_at c.args.pivot_row.now j) (to_z w128 (of_z w128 c.in-Some.entry))
    (omega (arith, ints)) (omega (arith, ints)) (omega (arith, ints, read)) (omega (arith, ints)) (omega (arith, ints, c.entry_at.ensures)))
