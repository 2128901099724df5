use Rattle.std.proofs.Common.{rules}
use Rattle.rp_generated.proofs.LightTypes.{no_bit}
use Rattle.rp_generated.proofs.compatible.has_bit.Goals as goal

pub returns : goal.returns
returns c = λ no. no_bit c.args.word c.args.k c.requires (search (no, rules))
