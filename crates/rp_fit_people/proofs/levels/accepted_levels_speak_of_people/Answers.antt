use Rattle.rp_fit_people.proofs.LevelLaws.{levels_of_one, utility_at_levels}
use Rattle.rp_fit_people.proofs.levels.accepted_levels_speak_of_people.Goals as goal

pub returns-clause-below : goal.returns-clause-below
returns-clause-below g c input part num den full proves levels below = utility_at_levels input full num den levels (proves.holds_below num den below)

pub returns-clause-lack : goal.returns-clause-lack
returns-clause-lack g c input part num den full proves levels fits =
    proves.at_least num den levels (levels_of_one input full num den levels g.P.BundleRelation.prefers fits)
