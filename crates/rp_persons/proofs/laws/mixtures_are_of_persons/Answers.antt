use Rattle.rp_persons.proofs.Populations.{any_make, mixtures_of_persons, with_utilities_make}
use Rattle.rp_persons.proofs.laws.mixtures_are_of_persons.Goals as goal

pub returns-clause-preferences : goal.returns-clause-preferences
returns-clause-preferences g c input asked p full are valid =
    let r = mixtures_of_persons input asked p full are valid in
    (λ has. with_utilities_make input p (r.0 has), r.1)

pub returns-clause-utilities : goal.returns-clause-utilities
returns-clause-utilities g c input asked p full are valid =
    let r = mixtures_of_persons input asked p full are valid in
    (r.0, λ some. r.1 (with_utilities_make input p some))

pub returns-clause-each : goal.returns-clause-each
returns-clause-each g c input asked p full are valid = any_make input asked p are valid g.P.PersonRelations.prefers
