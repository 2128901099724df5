use Rattle.rp_generated.proofs.LightTypes.{in_all}
use Rattle.rp_generated.proofs.compatible.PatchSet.all.Goals as goal

pub returns : goal.returns
returns c = in_all
