use Rattle.rp_bounds_panel.specs.InnerRows.{WritesHouseholds}
use Rattle.rp_bounds_panel.proofs.rows.write_households.Given as goal

abbrev pub invariant-loop-h : goal.invariant-loop-h
invariant-loop-h g l = WritesHouseholds g.S.BoundSearch.of_demand g.S.BoundSearch.of_welfare l.asked l.new l.panel l.h l.fn.rows l.rows
