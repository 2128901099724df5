use Rattle.std.proofs.Common.{◌<◌, ◌≤◌, ◌∙◌, FitsSigned, arith, rules, slice_index}
use Rattle.std.specs.Int.{w128}
use Rattle.std.proofs.lemmas.Int.{to_z-of_z}
use Rattle.rp_whole_tableau.specs.Programs.{width_of}
use Rattle.rp_whole_tableau.proofs.ReadOffs.{is_amount, no_amount}
use Rattle.rp_whole_tableau.proofs.grown.Grown.amount.Goals as goal

pub returns-then-value-eq0 : goal.returns-then-value-eq0
returns-then-value-eq0 c =
    let t = c.args.self.now.tableau in
    let fits : FitsSigned w128 c.entry.result = search rules in
    let column = c.in-Some.ensures.added in
    let added : width_of t ≤ slice_index t.basis.items c.args.i = omega (arith, column) in
    no_amount t c.args.common c.args.i c.in-Some-reduced.value _ (to_z-of_z w128 c.entry.result fits ∙ c.entry.ensures) c.requires.divides c.requires.row added c.in-Some-reduced.ensures.exact c.if-value-eq0.true

pub returns : goal.returns
returns c =
    let fits : FitsSigned w128 c.entry.result = search rules in
    let some : 0 < c.in-Some-reduced.value = search rules in
    is_amount c.args.self.now.tableau c.args.common c.args.i _ c.in-Some.added _ (to_z-of_z w128 c.entry.result fits ∙ c.entry.ensures) c.requires.divides c.requires.row c.in-Some.ensures.added (search rules) some c.in-Some-reduced.ensures.exact
