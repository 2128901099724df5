use Rattle.rp_people.proofs.TableLaws.{by_levels, levels_of_one}
use Rattle.rp_people.proofs.tables.rationalized_by_levels.Goals as goal

pub returns-clause-nonsatiated : goal.returns-clause-nonsatiated
returns-clause-nonsatiated g c input full = (by_levels input full).nonsatiated

pub returns-clause-preference : goal.returns-clause-preference
returns-clause-preference g c input full = (by_levels input full).preference

pub returns-clause-utility : goal.returns-clause-utility
returns-clause-utility g c input full = (by_levels input full).utility

pub returns-clause-each : goal.returns-clause-each
returns-clause-each g c input full = levels_of_one input full g.P.BundleRelation.prefers
