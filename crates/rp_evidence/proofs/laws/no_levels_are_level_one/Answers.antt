use Rattle.rp_evidence.proofs.OwnLevels.{garp_without_levels, strict_without_levels, weak_without_levels}
use Rattle.rp_evidence.proofs.laws.no_levels_are_level_one.Goals as goal

pub returns-clause-weak : goal.returns-clause-weak
returns-clause-weak c = weak_without_levels

pub returns-clause-strict : goal.returns-clause-strict
returns-clause-strict c = strict_without_levels

pub returns-clause-garp : goal.returns-clause-garp
returns-clause-garp c = garp_without_levels
