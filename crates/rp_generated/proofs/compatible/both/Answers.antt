use Rattle.rp_generated.proofs.LightTypes.{bit_in_both}
use Rattle.rp_generated.proofs.compatible.both.Goals as goal

pub returns : goal.returns
returns c = λ b has too. bit_in_both c.args.word c.args.other b has too
