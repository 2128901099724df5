use Rattle.rp_patch.proofs.SetLaws.{in_more}
use Rattle.rp_patch.proofs.sets.with.Goals as goal

pub returns : goal.returns
returns c = λ b. in_more c.args.set c.args.k b c.requires
