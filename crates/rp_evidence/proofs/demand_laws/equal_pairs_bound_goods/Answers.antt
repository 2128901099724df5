use Rattle.rp_evidence.proofs.DemandBounds.{lower_is_infimum, upper_is_supremum}
use Rattle.rp_evidence.proofs.demand_laws.equal_pairs_bound_goods.Goals as goal

pub returns-clause-lower : goal.returns-clause-lower
returns-clause-lower c = λ at g den y x g_in pair. lower_is_infimum at.input at.budget at.below at.listed at.sound at.demand at.supports g den y x g_in pair

pub returns-clause-upper : goal.returns-clause-upper
returns-clause-upper c = λ at g den y x g_in costs pair. upper_is_supremum at.input at.budget at.below at.listed at.sound at.demand at.supports g den y x g_in costs pair
