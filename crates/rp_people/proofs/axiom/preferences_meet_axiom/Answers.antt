use Rattle.rp_people.specs.Preferences.{shown_by}
use Rattle.rp_people.proofs.Chains.{meets_axiom}
use Rattle.rp_people.proofs.axiom.preferences_meet_axiom.Goals as goal

pub returns-clause-some : goal.returns-clause-some
returns-clause-some g c choices are has = meets_axiom choices are.bundles (shown_by has.passes) has.fits.preference has.fits.rationalizes

pub returns-clause-each : goal.returns-clause-each
returns-clause-each g c choices are fits = meets_axiom choices are.bundles g.P.BundleRelation.prefers fits.preference fits.rationalizes
