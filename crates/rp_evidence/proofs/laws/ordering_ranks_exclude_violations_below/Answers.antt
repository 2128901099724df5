use Rattle.rp_evidence.proofs.Levels.{ordering_ranks_exclude}
use Rattle.rp_evidence.proofs.laws.ordering_ranks_exclude_violations_below.Goals as goal

pub returns : goal.returns
returns c = ordering_ranks_exclude
