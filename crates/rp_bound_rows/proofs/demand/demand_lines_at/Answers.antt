use Rattle.rp_evidence.specs.Input.{input_of_table}
use Rattle.rp_bound_rows.specs.DemandLines.{AreDemandLinesAt}
use Rattle.rp_bound_rows.proofs.LineLemmas.{has_goods}
use Rattle.rp_bound_rows.proofs.demand.demand_lines_at.Goals as goal

pub good_lines-requires-clause-one_each : goal.good_lines-requires-clause-one_each
good_lines-requires-clause-one_each g c =
    has_goods (input_of_table c.args.table.now) c.row.result.now c.m.result c.in_ok-part.part c.in_ok-part.ensures.proves

pub returns : goal.returns
returns g c =
    let given = c.in_ok-part.ensures in
    let made : AreDemandLinesAt g.S.BoundSearch.of_demand c.args.table.now c.args.i c.row.result.now c.m.result c.in_ok-lines.lines = record {
      evidence = c.in_ok-part.part;
      proves = given.proves;
      says = given.says;
      is_given = given.given;
      lines_are = c.in_ok-lines.ensures;
    } in
    rw (c.row.ensures.exact, c.m.ensures.exact) at made
