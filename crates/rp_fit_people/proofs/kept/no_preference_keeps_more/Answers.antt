use Rattle.rp_fit_people.proofs.KeptLaws.{consistent_by_preference, none_fits_more}
use Rattle.rp_fit_people.proofs.kept.no_preference_keeps_more.Goals as goal

pub returns-clause-consistent : goal.returns-clause-consistent
returns-clause-consistent g c input set full is_set fits = consistent_by_preference input full set is_set g.P.BundleRelation.prefers fits

pub returns-clause-most : goal.returns-clause-most
returns-clause-most g c input most set full none is_set fits = none_fits_more input most full none g.P.BundleRelation.prefers set is_set fits
