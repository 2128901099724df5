use Rattle.rp_clauses.proofs.OwnCosts.{own_positive}
use Rattle.rp_clauses.proofs.input.Input.new.Goals as goal

pub returns-clause-positive : goal.returns-clause-positive
returns-clause-positive c = own_positive c.args.costs.now c.args.table.now c.n.ensures.valid c.requires
