use Rattle.rp_simplex.proofs.Runs.{cols_of, starts, distinct_basis, sides, no_ties, fresh, moves, nearer}
use Rattle.rp_simplex.specs.ReadProgram.{program_in}
use Rattle.rp_simplex.specs.declared.outcome.Outcome.TheVariants.{Optimal, Unbounded, Wide}
use Rattle.rp_simplex.proofs.Outcomes.{whole}
use Rattle.rp_simplex.proofs.OutcomeLemmas.{ends_optimal, ends_unbounded, passes_width, next_count}
use Rattle.rp_simplex.proofs.run.run.Goals as goal

pub loop-column-init : goal.loop-column-init
loop-column-init c = starts (program_in c.args.first.columns) c.args.first c.requires.first c.requires.shape

pub point-y-requires-clause-distinct : goal.point-y-requires-clause-distinct
point-y-requires-clause-distinct c = distinct_basis (program_in c.args.first.columns) c.requires.limits c.loop-column.t c.loop-column.step c.loop-column.invariant

pub point-y-requires-clause-sides : goal.point-y-requires-clause-sides
point-y-requires-clause-sides c = sides (program_in c.args.first.columns) c.requires.limits c.loop-column.t c.loop-column.step c.loop-column.invariant

pub returns-in_default : goal.returns-in_default
returns-in_default c = whole (program_in c.args.first.columns) (Optimal _) c.requires.limits (ends_optimal (program_in c.args.first.columns) c.requires.limits c.loop-column.t c.loop-column.step _ c.loop-column.invariant (cols_of c.args.first c.requires.shape) c.point-y.result c.prices-x.result
    c.in_default.ensures c.point-y.ensures.listed c.point-y.ensures.read c.prices-x.ensures.length c.prices-x.ensures.read)

pub leaving_row-requires-clause-no_ties : goal.leaving_row-requires-clause-no_ties
leaving_row-requires-clause-no_ties c = no_ties (program_in c.args.first.columns) c.requires.limits c.loop-column.t c.loop-column.step c.loop-column.invariant c.in-Some.column

pub point-point-requires-clause-distinct : goal.point-point-requires-clause-distinct
point-point-requires-clause-distinct c = distinct_basis (program_in c.args.first.columns) c.requires.limits c.loop-column.t c.loop-column.step c.loop-column.invariant

pub point-point-requires-clause-sides : goal.point-point-requires-clause-sides
point-point-requires-clause-sides c = sides (program_in c.args.first.columns) c.requires.limits c.loop-column.t c.loop-column.step c.loop-column.invariant

pub ray-ray-requires-clause-distinct : goal.ray-ray-requires-clause-distinct
ray-ray-requires-clause-distinct c = distinct_basis (program_in c.args.first.columns) c.requires.limits c.loop-column.t c.loop-column.step c.loop-column.invariant

pub ray-ray-requires-clause-fresh : goal.ray-ray-requires-clause-fresh
ray-ray-requires-clause-fresh c = fresh (program_in c.args.first.columns) c.requires.limits c.loop-column.t c.loop-column.step c.loop-column.invariant c.in-Some.column c.in-Some.ensures

pub returns-in_default-leaving_row : goal.returns-in_default-leaving_row
returns-in_default-leaving_row c = whole (program_in c.args.first.columns) (Unbounded _ _ _) c.requires.limits (ends_unbounded (program_in c.args.first.columns) c.requires.limits c.loop-column.t c.loop-column.step _ c.loop-column.invariant (cols_of c.args.first c.requires.shape)
    c.in-Some.column c.point-point.result c.ray-ray.result c.in-Some.ensures c.in_default-leaving_row.ensures c.point-point.ensures.listed c.point-point.ensures.read c.ray-ray.ensures.listed c.ray-ray.ensures.read)

pub returns-in_default-pivot_at : goal.returns-in_default-pivot_at
returns-in_default-pivot_at c =
    whole (program_in c.args.first.columns) (Wide _) c.requires.limits (passes_width (program_in c.args.first.columns) c.requires.limits c.loop-column.t c.loop-column.step c.saturating_add-step.result c.in-Some.column c.in-Some-leaving_row.row c.loop-column.invariant
    c.in-Some.ensures c.in-Some-leaving_row.ensures c.in_default-pivot_at.ensures.next (next_count c.loop-column.step c.loop-column.invariant.steps c.saturating_add-step.result c.loop-column.invariant.counted c.saturating_add-step.ensures))

pub loop-column-smaller : goal.loop-column-smaller
loop-column-smaller c =
    let made = c.in-Some-pivot_at.ensures in
    nearer (program_in c.args.first.columns) c.requires.limits c.loop-column.t c.loop-column.step c.loop-column.invariant c.in-Some.column c.in-Some-leaving_row.row c.in-Some-pivot_at.next
    c.in-Some.ensures c.in-Some-leaving_row.ensures made.next made.shape.0 made.shape.1

pub loop-column-preserved : goal.loop-column-preserved
loop-column-preserved c =
    let made = c.in-Some-pivot_at.ensures in
    moves (program_in c.args.first.columns) c.requires.limits c.loop-column.t c.loop-column.step c.loop-column.invariant c.in-Some.column c.in-Some-leaving_row.row c.in-Some-pivot_at.next
    c.in-Some.ensures c.in-Some-leaving_row.ensures c.saturating_add-step.result made.next made.shape.0 made.shape.1
    (next_count c.loop-column.step c.loop-column.invariant.steps c.saturating_add-step.result c.loop-column.invariant.counted c.saturating_add-step.ensures)
