use Rattle.rp_evidence.proofs.WelfareLaws.{reaching_in_region}
use Rattle.rp_evidence.proofs.welfare_laws.reaching_bundles_are_in_region.Goals as goal

pub returns : goal.returns
returns c = reaching_in_region
