use Rattle.rp_persons.proofs.SaysOfItems.{any_say, evidence_says, items_say}
use Rattle.rp_persons.proofs.laws.proved_random_items_say.Goals as goal

pub returns-clause-evidence : goal.returns-clause-evidence
returns-clause-evidence g c = evidence_says

pub returns-clause-items : goal.returns-clause-items
returns-clause-items g c = items_say

pub returns-clause-each : goal.returns-clause-each
returns-clause-each g c p total part valid proves = any_say p total part valid proves g.P.PersonRelations.prefers
