use Rattle.rp_people.proofs.TableLaws.{at_level, level_of_one}
use Rattle.rp_people.proofs.tables.rationalized_at_level.Goals as goal

pub returns-clause-nonsatiated : goal.returns-clause-nonsatiated
returns-clause-nonsatiated g c input num den full level = (at_level input full num den level).nonsatiated

pub returns-clause-preference : goal.returns-clause-preference
returns-clause-preference g c input num den full level = (at_level input full num den level).preference

pub returns-clause-utility : goal.returns-clause-utility
returns-clause-utility g c input num den full level = (at_level input full num den level).utility

pub returns-clause-each : goal.returns-clause-each
returns-clause-each g c input num den full level = level_of_one input full num den level g.P.BundleRelation.prefers
