use Rattle.rp_evidence.proofs.OwnAfriat.{evidence_without_levels, model_without_levels, standard_without_levels, utility_without_levels}
use Rattle.rp_evidence.proofs.afriat_laws.afriat_without_levels.Goals as goal

pub returns-clause-models : goal.returns-clause-models
returns-clause-models c = model_without_levels

pub returns-clause-standard : goal.returns-clause-standard
returns-clause-standard c = standard_without_levels

pub returns-clause-utilities : goal.returns-clause-utilities
returns-clause-utilities c = utility_without_levels

pub returns-clause-evidence : goal.returns-clause-evidence
returns-clause-evidence c = evidence_without_levels
