use Rattle.rp_fit_people.proofs.LevelLaws.{levels_of_one, levels_of_some, levels_of_utility, some_at_levels, utility_at_levels}
use Rattle.rp_fit_people.proofs.levels.rationalized_at_levels.Goals as goal

pub returns-clause-nonsatiated : goal.returns-clause-nonsatiated
returns-clause-nonsatiated g c input num den full levels = (levels_of_some input full num den levels, some_at_levels input full num den levels)

pub returns-clause-utility : goal.returns-clause-utility
returns-clause-utility g c input num den full levels = (levels_of_utility input full num den levels, utility_at_levels input full num den levels)

pub returns-clause-each : goal.returns-clause-each
returns-clause-each g c input num den full levels fits = levels_of_one input full num den levels g.P.BundleRelation.prefers fits
