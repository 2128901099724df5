use Rattle.rp_clauses.proofs.quasilinear.check_quasilinear.Goals as goal

pub returns-in-Values : goal.returns-in-Values
returns-in-Values c = rw c.in-Values.is (rw c.as_slice.ensures at c.check_values.ensures)
