use Rattle.std.proofs.Common.{◌≡◌, ◌<◌, ◌+◌, ◌∙◌, ℕ, FitsSigned, length, arith, rules, subst, to_z, of_z, ap}
use Rattle.std.specs.Int.{w128}
use Rattle.std.proofs.lemmas.Int.{to_z-of_z}
use Rattle.rp_whole_tableau.proofs.GrownPrograms.{column_passes, next_lowest, rows_read}
use Rattle.rp_whole_tableau.specs.Programs.{EntryPasses, entry_of, objective_of, width_of}
use Rattle.rp_whole_tableau.proofs.grown.Grown.entering.Goals as goal

pub overflow_add-width : goal.overflow_add-width
overflow_add-width c =
    let small = c.args.self.now.columns.small in
    let ok = c.args.self.now.columns.ok in
    omega (arith, c.width-width.ensures.small, c.loop-n-test.true, c.len-n-end.ensures, small, ok.0, ok.1)

pub returns-in-None : goal.returns-in-None
returns-in-None c =
    let g = c.args.self.now in
    let n = c.loop-n.n in
    let inside : n < length g.columns.items = search rules in
    let objective : c.len-objective.result ≡ objective_of g.tableau = search rules in
    column_passes g n c.as_slice.result.now inside (c.as_slice.ensures.value ∙ rows_read g.columns.items n c.index.result.now inside c.index.ensures)
    (subst (λ (i : ℕ). EntryPasses g.tableau i c.as_slice.result.now) objective c.in-None.ensures)

pub loop-n-preserved : goal.loop-n-preserved
loop-n-preserved c =
    let g = c.args.self.now in
    let n = c.loop-n.n in
    let inside : n < length g.columns.items = search rules in
    let objective : c.len-objective.result ≡ objective_of g.tableau = search rules in
    let fits : FitsSigned w128 c.in-Some.entry = search rules in
    let at : c.width-width.result + n ≡ width_of g.tableau + n = ap (λ w. w + n) c.width-width.ensures.entries in
    let is : to_z w128 (of_z w128 c.in-Some.entry) ≡ entry_of g.tableau (objective_of g.tableau) c.as_slice.result.now = to_z-of_z w128 c.in-Some.entry fits ∙ c.in-Some.ensures ∙ ap (λ i. entry_of g.tableau i c.as_slice.result.now) objective in
    next_lowest g n (c.width-width.result + n) c.as_slice.result.now c.loop-n.lowest c.or-lowest.result (to_z w128 (of_z w128 c.in-Some.entry)) inside at (c.as_slice.ensures.value ∙ rows_read g.columns.items n c.index.result.now inside c.index.ensures) c.loop-n.invariant is c.or-lowest.ensures
