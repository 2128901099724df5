use Rattle.rp_clauses.proofs.homothetic.check_homothetic.Goals as goal

pub returns-in-Values : goal.returns-in-Values
returns-in-Values c = rw c.in-Values.is (rw c.as_slice.ensures at c.check_values.ensures)

pub returns-in-Cycle : goal.returns-in-Cycle
returns-in-Cycle c = rw c.in-Cycle.is (rw c.as_slice-in-Cycle.ensures at c.check_cycle.ensures)
