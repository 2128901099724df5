use Rattle.std.proofs.Common.{refl}
use Rattle.rp_generated.proofs.LightTypes.{meets_on}
use Rattle.rp_generated.proofs.compatible.PatchSet.meet.Goals as goal

pub loop-k-preserved : goal.loop-k-preserved
loop-k-preserved c = λ i has too.
    meets_on c.loop-k.words c.loop-k.k c.both.result _ _ c.args.other.now.words i refl refl c.both.ensures (c.loop-k.invariant i has too) too
