use Rattle.rp_evidence.proofs.OwnAfriat.{own_at_most_held_to}
use Rattle.rp_evidence.proofs.afriat_laws.affordable_utilities.Goals as goal

pub returns : goal.returns
returns c = λ n den t levels cost utility multiplier spent value. own_at_most_held_to n den t levels cost utility multiplier spent value
