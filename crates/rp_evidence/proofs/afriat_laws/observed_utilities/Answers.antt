use Rattle.rp_evidence.proofs.OwnAfriat.{own_at_least_its_number, own_is_its_number}
use Rattle.rp_evidence.proofs.afriat_laws.observed_utilities.Goals as goal

pub returns-clause-at_least : goal.returns-clause-at_least
returns-clause-at_least c = λ n t levels cost utility multiplier value. own_at_least_its_number n levels cost utility multiplier t value

pub returns-clause-exact : goal.returns-clause-exact
returns-clause-exact c = λ n t levels cost utility multiplier. own_is_its_number n levels cost utility multiplier t
