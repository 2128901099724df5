use Rattle.rp_generated.proofs.LightTypes.{bit_stays}
use Rattle.rp_generated.proofs.compatible.cleared.Goals as goal

pub returns : goal.returns
returns c = λ b inside other has. bit_stays c.args.word c.args.k c.requires b inside other has
