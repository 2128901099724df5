use Rattle.rp_people.proofs.Orders.{alike_by_value, preference_is, preference_of_monotone, strict_is_better}
use Rattle.rp_people.proofs.axiom.utilities_are_preferences.Goals as goal

pub returns-clause-preference : goal.returns-clause-preference
returns-clause-preference c goods utility = preference_is goods utility

pub returns-clause-by_value : goal.returns-clause-by_value
returns-clause-by_value c goods utility = alike_by_value goods utility

pub returns-clause-strict : goal.returns-clause-strict
returns-clause-strict c goods utility of_bundles = strict_is_better goods utility of_bundles

pub returns-clause-rationalizing : goal.returns-clause-rationalizing
returns-clause-rationalizing c = preference_of_monotone
