use Rattle.rp_people.proofs.Rooms.{more_is_nonsatiated, nonsatiated_as_written, nonsatiated_by_value, preference_is_nonsatiated}
use Rattle.rp_people.proofs.axiom.monotone_preferences_are_nonsatiated.Goals as goal

pub returns-clause-monotone : goal.returns-clause-monotone
returns-clause-monotone g c goods more =
    let by_value = more_is_nonsatiated goods g.P.BundleRelation.prefers more in (nonsatiated_as_written goods g.P.BundleRelation.prefers by_value, by_value)

pub returns-clause-by_value : goal.returns-clause-by_value
returns-clause-by_value g c goods = nonsatiated_by_value goods g.P.BundleRelation.prefers

pub returns-clause-preference : goal.returns-clause-preference
returns-clause-preference g c goods = preference_is_nonsatiated goods g.P.BundleRelation.prefers
