use Rattle.rp_evidence.proofs.Places.{violates_by_places, places_of_violation}
use Rattle.rp_evidence.proofs.laws.violations_by_places.Goals as goal

pub returns : goal.returns
returns g c = λ n walk. (places_of_violation n g.P.Preference.weak g.P.Preference.strict walk, violates_by_places n g.P.Preference.weak g.P.Preference.strict walk)
