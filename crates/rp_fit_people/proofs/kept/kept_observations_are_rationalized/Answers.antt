use Rattle.rp_fit_people.proofs.KeptLaws.{kept_evidence_says, utility_of_set}
use Rattle.rp_fit_people.proofs.kept.kept_observations_are_rationalized.Goals as goal

pub returns-clause-set : goal.returns-clause-set
returns-clause-set c input set full is_set consistent = utility_of_set input full set is_set consistent

pub returns-clause-evidence : goal.returns-clause-evidence
returns-clause-evidence c input part full proves = kept_evidence_says input part full proves
