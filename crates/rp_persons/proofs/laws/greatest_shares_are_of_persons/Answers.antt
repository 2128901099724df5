use Rattle.rp_persons.proofs.Populations.{any_make_at_most, shares_of_persons}
use Rattle.rp_persons.proofs.laws.greatest_shares_are_of_persons.Goals as goal

pub returns-clause-persons : goal.returns-clause-persons
returns-clause-persons g c = shares_of_persons

pub returns-clause-each : goal.returns-clause-each
returns-clause-each g c input asked p full are valid = any_make_at_most input asked p are valid g.P.PersonRelations.prefers
