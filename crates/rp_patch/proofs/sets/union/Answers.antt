use Rattle.rp_patch.proofs.SetLaws.{in_union}
use Rattle.rp_patch.proofs.sets.union.Goals as goal

pub returns : goal.returns
returns c = λ k. in_union c.args.a c.args.b k
