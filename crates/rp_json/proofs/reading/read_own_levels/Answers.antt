use Rattle.serde_json.specs.View.{members_view}
use Rattle.rp_json.proofs.TopLemmas.{no_four_members}
use Rattle.rp_json.proofs.reading.read_own_levels.Goals as goal

pub returns-in-None : goal.returns-in-None
returns-in-None c = no_four_members (members_view c.args.members.now.entries) (c.in_ok-values.ensures.none c.in-None.is)
