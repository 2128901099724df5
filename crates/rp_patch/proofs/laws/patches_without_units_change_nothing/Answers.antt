use Rattle.rp_patch.proofs.AddedPatches.{same_mixtures, same_shares}
use Rattle.rp_patch.proofs.laws.patches_without_units_change_nothing.Goals as goal

pub returns-clause-mixtures : goal.returns-clause-mixtures
returns-clause-mixtures c = same_mixtures

pub returns-clause-shares : goal.returns-clause-shares
returns-clause-shares c = same_shares
