use Rattle.rp_people.proofs.TableLaws.{pair_contradicts, pair_of_one}
use Rattle.rp_people.proofs.tables.contradicting_pairs_survive_no_preference.Goals as goal

pub returns-clause-none : goal.returns-clause-none
returns-clause-none g c input s t full = pair_contradicts input full s t

pub returns-clause-each : goal.returns-clause-each
returns-clause-each g c input s t full = pair_of_one input full g.P.BundleRelation.prefers s t
