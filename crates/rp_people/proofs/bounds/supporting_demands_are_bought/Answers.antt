use Rattle.rp_people.proofs.Bought.{bought_by_is_supporting, bought_is_supporting, by_utility_is_bought, infimum_bought, supporting_is_bought_by_utility, supremum_bought}
use Rattle.rp_people.proofs.bounds.supporting_demands_are_bought.Goals as goal

pub returns-clause-bought : goal.returns-clause-bought
returns-clause-bought g c input budget x full positive = (
  λ is. by_utility_is_bought input budget x (supporting_is_bought_by_utility input budget x full positive is),
  bought_is_supporting input budget x full positive,
)

pub returns-clause-by_utility : goal.returns-clause-by_utility
returns-clause-by_utility g c input budget x full positive = (
  supporting_is_bought_by_utility input budget x full positive,
  λ is. bought_is_supporting input budget x full positive (by_utility_is_bought input budget x is),
)

pub returns-clause-infimum : goal.returns-clause-infimum
returns-clause-infimum g c input budget good num den full positive = infimum_bought input budget full positive good num den

pub returns-clause-supremum : goal.returns-clause-supremum
returns-clause-supremum g c input budget good num den full positive = supremum_bought input budget full positive good num den

pub returns-clause-each : goal.returns-clause-each
returns-clause-each g c input budget x full positive = bought_by_is_supporting input budget x g.P.BundleRelation.prefers full positive
